-- Steps of a search for a mark.
use Rattle.std.proofs.Common.{◌≡◌, ℕ, zero, suc, ◌+◌, ◌≤◌, ◌<◌, Bool, true, false, Some, None, ◌⊎◌, inl, inr, nat_eq, [], ◌∷◌, length, get_or, drop, refl, ap, arith, add-one}
use Rattle.std.proofs.lemmas.Grind.{common_steps}
use Rattle.std.proofs.Math.Seq.{drop-cons}
use Rattle.std.proofs.lemmas.List.{drop-drop}
use Rattle.memchr.specs.Find.{IsFirstByte}
use Rattle.php_lexer.specs.declared.until.Stop.{Stop}
use Rattle.php_lexer.specs.declared.until.Stop.TheVariants.{Line, Comment, Tag}
use Rattle.php_lexer.specs.Bytes.{Text}
use Rattle.php_lexer.specs.Until.{stops, may_begin, until}

pub stops_not : (s : Stop) (b : ℕ) (z : Text) → may_begin s b ≡ false → stops s (b ∷ z) ≡ false
stops_not Line b z h = grind (arith, common_steps)
stops_not Comment b z h = grind (arith, common_steps)
stops_not Tag b z h = grind (arith, common_steps)

pub until_stops : (s : Stop) (z : Text) → stops s z ≡ true → until s z ≡ 0
unfolding until
until_stops s [] h = refl
until_stops s (b ∷ z) h = rw h

pub until_goes : (s : Stop) (b : ℕ) (z : Text) → stops s (b ∷ z) ≡ false → until s (b ∷ z) ≡ suc (until s z)
unfolding until
until_goes s b z h = rw h

pub until_step : (s : Stop) (z : Text) (i : ℕ) → i < length z → stops s (drop i z) ≡ false → until s (drop i z) ≡ suc (until s (drop (i + 1) z))
until_step s z i h n =
    let front : drop i z ≡ get_or z i 0 ∷ drop (i + 1) z = rw add-one (drop-cons z i 0 h) in
    let n' : stops s (get_or z i 0 ∷ drop (i + 1) z) ≡ false = rw front at n in
    rw front (until_goes s (get_or z i 0) (drop (i + 1) z) n')

pub until_skips : (s : Stop) (k : ℕ) (z : Text) → k ≤ length z → ((j : ℕ) → j < k → may_begin s (get_or z j 0) ≡ false) → until s z ≡ k + until s (drop k z)
until_skips s zero z h none = omega arith
until_skips s (suc k) [] h none = absurd (omega arith)
until_skips s (suc k) (b ∷ z) h none =
    let first : may_begin s b ≡ false = none 0 (omega arith) in
    let more = until_skips s k z (omega arith) (λ j l. none (suc j) (omega arith)) in
    let goes = until_goes s b z (stops_not s b z first) in omega arith

not_true : (b : Bool) → (b ≡ true → ⊥) → b ≡ false
not_true true h = absurd (h refl)
not_true false h = refl

pub until_from : (s : Stop) (z : Text) (k : ℕ) → IsFirstByte (may_begin s) z (Some k) → until s z ≡ k + until s (drop k z)
until_from s z k first =
    until_skips s k z (let h = first.0.high in omega arith) (λ j l. not_true _ (first.0.before j (omega arith) l))

pub until_none : (s : Stop) (z : Text) → IsFirstByte (may_begin s) z None → until s z ≡ length z + until s (drop (length z) z)
until_none s z none = until_skips s (length z) z (omega arith) (λ j l. not_true _ (none j (omega arith) l))

pub until_empty : (s : Stop) (z : Text) → length z ≡ 0 → until s z ≡ 0
unfolding until
until_empty s [] h = refl
until_empty s (b ∷ z) h = absurd (omega arith)

-- where the next that may begin a mark is
pub until_at : (s : Stop) (z : Text) (at r : ℕ) → at + until s (drop at z) ≡ until s z → until s (drop at z) ≡ r + until s (drop r (drop at z))
    → at + r + until s (drop (at + r) z) ≡ until s z
until_at s z at r g e =
    let same : until s (drop r (drop at z)) ≡ until s (drop (at + r) z) = ap (until s) (drop-drop r at z) in omega arith

pub until_more : (s : Stop) (z : Text) (i : ℕ) → i + until s (drop i z) ≡ until s z → i < length z → stops s (drop i z) ≡ false
    → i + 1 + until s (drop (i + 1) z) ≡ until s z
until_more s z i g h n = let step = until_step s z i h n in omega arith

pub until_found : (s : Stop) (z : Text) (i : ℕ) → i + until s (drop i z) ≡ until s z → (length (drop i z) ≡ 0) ⊎ (stops s (drop i z) ≡ true) → i ≡ until s z
until_found s z i g (inl e) = let none = until_empty s (drop i z) e in omega arith
until_found s z i g (inr t) = let here = until_stops s (drop i z) t in omega arith

pub until_zero : (s : Stop) (z : Text) → until s z ≡ 0 → (length z ≡ 0 → ⊥) → stops s z ≡ true
until_zero s [] e n = absurd (n refl)
until_zero s (b ∷ z) e n = by_cases (stops s (b ∷ z)) refl
  where
    by_cases : (t : Bool) → stops s (b ∷ z) ≡ t → t ≡ true
    by_cases true q = refl
    by_cases false q = let goes = until_goes s b z q in absurd (omega arith)

pub not_zero : (n : ℕ) → nat_eq n 0 ≡ false → n ≡ 0 → ⊥
not_zero zero h e = absurd cc
not_zero (suc n) h e = omega arith
