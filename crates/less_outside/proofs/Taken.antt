-- How a loop over std's `write` goes on.
use Rattle.std.proofs.Common.{◌≡◌, ℕ, List, [], ◌++◌, take, drop, refl, sym, ap, ◌∙◌, append_assoc, append-nil, take-append-drop, subst}
use Rattle.std.specs.Prelude.{Option}
use Rattle.std.specs.Io.KnownBytes.{Appends, Keeps}
use Rattle.std.proofs.KnownBytes.{Appends-nil, Appends-trans, Appends-kept}
use Rattle.less_outside.specs.Sink.{AppendsFront}

-- all bytes but the rest were appended
pub record Taken (old new : Option (List ℕ)) (bytes rest : List ℕ) : Type 0 where
  pub front : List ℕ
  pub split : bytes ≡ front ++ rest
  pub appended : Appends old new front

pub nothing_taken : (a : Option (List ℕ)) (bytes : List ℕ) → Taken a a bytes bytes
nothing_taken a bytes = record { front = []; split = refl; appended = Appends-nil a }

pub more_taken : (a b c : Option (List ℕ)) (bytes rest : List ℕ) (n : ℕ) → Taken a b bytes rest → Appends b c (take n rest) → Taken a c bytes (drop n rest)
more_taken a b c bytes rest n so_far next = record {
  front = so_far.front ++ take n rest;
  split = so_far.split ∙ ap (λ l. so_far.front ++ l) (sym (take-append-drop n rest)) ∙ sym (append_assoc so_far.front (take n rest) (drop n rest));
  appended = Appends-trans a b c so_far.front (take n rest) so_far.appended next;
}

pub front_taken : (a b c : Option (List ℕ)) (bytes rest : List ℕ) → Taken a b bytes rest → Keeps b c → AppendsFront a c bytes
front_taken a b c bytes rest so_far kept = record { front = so_far.front; rest = rest; split = so_far.split; appended = Appends-kept a b c so_far.front so_far.appended kept }

pub all_taken : (a b : Option (List ℕ)) (bytes : List ℕ) → Taken a b bytes [] → Appends a b bytes
all_taken a b bytes so_far = subst (λ l. Appends a b l) (sym (so_far.split ∙ append-nil so_far.front)) so_far.appended
