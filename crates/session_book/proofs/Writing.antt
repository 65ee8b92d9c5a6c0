-- Marks that are written.
use Rattle.std.proofs.Common.{◌≡◌, ℕ, Bool, true, false, ◌&&◌, List, [], ◌∷◌, ◌++◌, refl, sym, ap, subst, ◌∙◌, drop, map, reverse, IsTrue, ◌≤◌, nat_le, arith}
use Rattle.std.proofs.lemmas.Bool.Decides.{nat_tests}
use Rattle.std.proofs.lemmas.List.{reverse-append}
use Rattle.order_map.specs.declared.key.Key.{Key}
use Rattle.order_map.specs.MapView.{MapView}
use Rattle.order_map.specs.Keys.{all_distinct, all_below, spent}
use Rattle.order_map.specs.Arrays.{keys_of, pairs_of, next_of, IsArray}
use Rattle.order_map.proofs.Keys.{and_both}
use Rattle.php_values.specs.declared.value.Value.{Value}
use Rattle.php_values.specs.declared.walk.Walk.{Walk}
use Rattle.php_values.specs.Data.{array, of_pairs, Pairs, no_pairs, pair, data_pairs, array_of, data_of}
use Rattle.php_values.specs.Walks.{rest_of}
use Rattle.session_book.specs.declared.mark.Mark.{Mark}
use Rattle.session_book.specs.declared.mark.Mark.TheVariants.{Close}
use Rattle.session_book.specs.Kept.{keys_in, is_keyed, is_sound_array, are_sound, kept_pairs, kept_array, without_objects}
use Rattle.session_book.specs.Marks.{innermost, with_mark, with_marks, content, IsWritten}
use Rattle.session_book.specs.Steps.{Adds, Writes, rest_kept, all_sound}

pub with_marks-push : (ms : List Mark) (m : Mark) (pss : List Pairs) → with_marks (ms ++ m ∷ []) pss ≡ with_marks ms (with_mark m pss)
with_marks-push [] m pss = refl
with_marks-push (n ∷ ms) m pss = ap (with_mark n) (with_marks-push ms m pss)

kept-keys : (ps : List (Key × Value)) → keys_in (kept_pairs (data_pairs ps)) ≡ keys_of ps
kept-keys [] = refl
kept-keys (p ∷ ps) = ap (λ ks. p.0 ∷ ks) (kept-keys ps)

within : (n m : ℕ) → n ≤ m → IsTrue (nat_le n m)
within n m h = grind (arith, nat_tests)

-- an array's keys are as they are to be
pub kept-keyed : (m : MapView Value) → IsArray (pairs_of m) (next_of m) → is_keyed (kept_pairs (data_pairs (pairs_of m))) (next_of m) ≡ true
kept-keyed m a =
    let keys = kept-keys (pairs_of m) in
    and_both _ _ (subst (λ ks. IsTrue (all_distinct ks)) (sym keys) a.distinct)
    (and_both _ _ (subst (λ ks. IsTrue (all_below (next_of m) ks)) (sym keys) a.below) (within (next_of m) spent a.within))

and-true : (a : Bool) → (a && true) ≡ a
and-true true = refl
and-true false = refl

and-assoc : (a b c : Bool) → ((a && b) && c) ≡ (a && (b && c))
and-assoc true b c = refl
and-assoc false b c = refl

-- a list begins
pub adds-list : (key : Key) (m : MapView Value) (mark : Mark) → IsArray (pairs_of m) (next_of m)
    → ((pss : List Pairs) → with_mark mark pss ≡ pair key (array (of_pairs (innermost pss) (next_of m))) (innermost (drop 1 pss)) ∷ drop 1 (drop 1 pss))
    → Adds key (array (kept_array (array_of m))) mark (kept_pairs (data_pairs (pairs_of m)) ∷ [])
adds-list key m mark a reads = record {
  reads = λ ps pss. reads (kept_pairs (data_pairs (pairs_of m)) ∷ ps ∷ pss);
  sound = ap (λ b. b && are_sound (kept_pairs (data_pairs (pairs_of m)))) (kept-keyed m a) ∙ sym (and-true (are_sound (kept_pairs (data_pairs (pairs_of m)))));
}

-- ---- the walks that are on their way: the innermost, and those around it, of which the outermost stands first

abbrev pub rests : Walk → List Walk → List Pairs
rests w ws = rest_kept w ∷ map rest_kept (reverse ws)

-- what was written so far, where so much is still to come, is the whole; and the whole is sound where what is to come is
pub record Wrote (ms : List Mark) (pss : List Pairs) (whole : Pairs) : Type 0 where
  pub reads : with_marks ms pss ≡ whole ∷ []
  pub sound : are_sound whole ≡ all_sound pss

abbrev arounds : List Walk → List Pairs
arounds ws = map rest_kept (reverse ws)

-- a walk put on the stack is the innermost of those around
pub arounds-push : (ws vs : List Walk) (w : Walk) → vs ≡ ws ++ w ∷ [] → map rest_kept (reverse vs) ≡ rest_kept w ∷ map rest_kept (reverse ws)
arounds-push ws vs w e = ap (λ l. map rest_kept (reverse l)) e ∙ ap (map rest_kept) (reverse-append ws (w ∷ []))

-- one more mark
pub wrote-more : (ms ns : List Mark) (m : Mark) (pss qss : List Pairs) (whole : Pairs) → Wrote ms pss whole → ns ≡ ms ++ m ∷ [] → with_mark m qss ≡ pss → all_sound pss ≡ all_sound qss → Wrote ns qss whole
wrote-more ms ns m pss qss whole h e r s = record {
  reads = ap (λ l. with_marks l qss) e ∙ with_marks-push ms m qss ∙ ap (with_marks ms) r ∙ h.reads;
  sound = h.sound ∙ s;
}

-- a walk has an end: that of its list is written, and the walk around it goes on
pub wrote-end : (ms ns : List Mark) (w : Walk) (ws vs : List Walk) (v : Walk) (whole : Pairs) → Wrote ms (rests w ws) whole → rest_of w ≡ [] → ws ≡ vs ++ v ∷ [] → ns ≡ ms ++ Close ∷ [] → Wrote ns (rests v vs) whole
wrote-end ms ns w ws vs v whole h r e n =
    let ends : rests w ws ≡ no_pairs ∷ rests v vs = (λ i. kept_pairs (data_pairs (r i)) ∷ arounds-push vs ws v e i) in
    wrote-more ms ns Close (rests w ws) (rests v vs) whole h n (sym ends) (ap all_sound ends)

-- a pair whose value is no list
pub wrote-flat : (ms ns : List Mark) (m : Mark) (w v : Walk) (ws : List Walk) (key : Key) (value : Value) (whole : Pairs) → Wrote ms (rests w ws) whole → rest_of w ≡ (key, value) ∷ rest_of v
    → Adds key (without_objects (data_of value)) m [] → ns ≡ ms ++ m ∷ [] → Wrote ns (rests v ws) whole
wrote-flat ms ns m w v ws key value whole h r a n =
    let front : rests w ws ≡ pair key (without_objects (data_of value)) (rest_kept v) ∷ arounds ws = ap (λ ps. kept_pairs (data_pairs ps) ∷ arounds ws) r in
    wrote-more ms ns m (rests w ws) (rests v ws) whole h n (a.reads (rest_kept v) (arounds ws) ∙ sym front)
    (ap all_sound front ∙ ap (λ b. (b && are_sound (rest_kept v)) && all_sound (arounds ws)) a.sound)

-- a pair whose value is a list, which is walked next
pub wrote-list : (ms ns : List Mark) (m : Mark) (w v u : Walk) (ws vs : List Walk) (key : Key) (value : Value) (whole : Pairs) → Wrote ms (rests w ws) whole → rest_of w ≡ (key, value) ∷ rest_of v
    → Adds key (without_objects (data_of value)) m (rest_kept u ∷ []) → ns ≡ ms ++ m ∷ [] → vs ≡ ws ++ v ∷ [] → Wrote ns (rests u vs) whole
wrote-list ms ns m w v u ws vs key value whole h r a n e =
    let front : rests w ws ≡ pair key (without_objects (data_of value)) (rest_kept v) ∷ arounds ws = ap (λ ps. kept_pairs (data_pairs ps) ∷ arounds ws) r in
    let back : rests u vs ≡ rest_kept u ∷ rest_kept v ∷ arounds ws = ap (λ l. rest_kept u ∷ l) (arounds-push ws vs v e) in
    let i = are_sound (rest_kept u) in
    let s = are_sound (rest_kept v) in
    wrote-more ms ns m (rests w ws) (rests u vs) whole h n (ap (with_mark m) back ∙ a.reads (rest_kept v) (arounds ws) ∙ sym front)
    (ap all_sound front ∙ ap (λ b. (b && s) && all_sound (arounds ws)) (a.sound ∙ and-true i) ∙ and-assoc i s (all_sound (arounds ws)) ∙ sym (ap all_sound back))

-- all walks have an end
pub wrote-all : (ms : List Mark) (w : Walk) (ws : List Walk) (whole : Pairs) → Wrote ms (rests w ws) whole → rest_of w ≡ [] → ws ≡ [] → Writes ms whole
wrote-all ms w ws whole h r e =
    let ends : rests w ws ≡ no_pairs ∷ [] = (λ i. kept_pairs (data_pairs (r i)) ∷ map rest_kept (reverse (e i))) in
    record { told = sym (ap (with_marks ms) ends) ∙ h.reads; sound = h.sound ∙ ap all_sound ends }

-- marks of all pairs of an array are those of a session's value
pub written : (ms : List Mark) (m : MapView Value) → Writes ms (kept_pairs (data_pairs (pairs_of m))) → IsArray (pairs_of m) (next_of m) → IsWritten ms (next_of m)
written ms m h a = record {
  closed = ap (drop 1) h.told;
  sound = subst (λ pss. IsTrue (is_sound_array (of_pairs (innermost pss) (next_of m)))) (sym h.told) (and_both _ _ (kept-keyed m a) h.sound);
}

pub written-content : (ms : List Mark) (m : MapView Value) → Writes ms (kept_pairs (data_pairs (pairs_of m))) → content ms (next_of m) ≡ kept_array (array_of m)
written-content ms m h = ap (λ pss. of_pairs (innermost pss) (next_of m)) h.told

-- nothing is written yet
pub wrote-none : (ms : List Mark) (w : Walk) (ws : List Walk) (ps : List (Key × Value)) → ms ≡ [] → ws ≡ [] → rest_of w ≡ ps → Wrote ms (rests w ws) (kept_pairs (data_pairs ps))
wrote-none ms w ws ps m e r =
    let one : rests w ws ≡ kept_pairs (data_pairs ps) ∷ [] = (λ i. kept_pairs (data_pairs (r i)) ∷ map rest_kept (reverse (e i))) in
    record {
      reads = (λ i. with_marks (m i) (one i));
      sound = sym (ap all_sound one ∙ and-true (are_sound (kept_pairs (data_pairs ps))));
    }
