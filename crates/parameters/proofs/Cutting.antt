-- A list that is split at its first separator.
use Rattle.std.proofs.Common.{rules, ◌≡◌, ℕ, suc, ◌+◌, Bool, true, false, List, [], ◌∷◌, take, drop, length, refl, sym, ap, ◌∙◌, arith, Some, None, position, if◌then◌else◌, nat_lt, ltb-true, not}
use Rattle.php_values.specs.Data.{ArrayData}
use Rattle.parameters.specs.Cookies.{is_semicolon, with_cookie, with_cookies}
use Rattle.std.specs.List.{slice_split, onto_first, position_or_len}
use Rattle.std.proofs.lemmas.List.Splits.{slice_split_first, slice_split-cons_no}
use Rattle.std.proofs.lemmas.Bool.Decides.{nat_tests}

found_is : (b : Bool) (n end : ℕ) → (if b then Some n else None) ≡ Some end → (b ≡ true) × (n ≡ end)
found_is true n end h = (refl, cc)
found_is false n end h = search (rules, h)

missing_is : (b : Bool) (n : ℕ) → (if b then Some n else None) ≡ None → b ≡ false
missing_is true n h = search (rules, h)
missing_is false n h = refl

-- at a separator
pub split_at_first : (p : ℕ → Bool) (xs : List ℕ) (end : ℕ) → position p xs ≡ Some end → slice_split p xs ≡ take end xs ∷ slice_split p (drop (end + 1) xs)
split_at_first p xs end found =
    let f = found_is (nat_lt (position_or_len p xs) (length xs)) (position_or_len p xs) end found in
    slice_split_first p xs 0 (ltb-true (position_or_len p xs) (length xs) f.0) ∙ ap (λ n. take n xs ∷ slice_split p (drop (n + 1) xs)) f.1

whole_step : (b : Bool) (p : ℕ → Bool) (x : ℕ) (xs : List ℕ) → p x ≡ b → nat_lt (if not b then 1 + position_or_len p xs else 0) (suc (length xs)) ≡ false
    → (nat_lt (position_or_len p xs) (length xs) ≡ false → slice_split p xs ≡ xs ∷ []) → slice_split p (x ∷ xs) ≡ (x ∷ xs) ∷ []
whole_step true p x xs is none ih = absurd (grind (arith, nat_tests, none))
whole_step false p x xs is none ih =
    let e : nat_lt (position_or_len p xs) (length xs) ≡ false = grind (arith, nat_tests, none) in
    slice_split-cons_no p x xs is ∙ ap (onto_first x) (ih e)

whole : (p : ℕ → Bool) (xs : List ℕ) → nat_lt (position_or_len p xs) (length xs) ≡ false → slice_split p xs ≡ xs ∷ []
whole p [] h = refl
whole p (x ∷ xs) h = whole_step (p x) p x xs refl h (whole p xs)

-- without one
pub split_whole : (p : ℕ → Bool) (xs : List ℕ) → position p xs ≡ None → slice_split p xs ≡ xs ∷ []
split_whole p xs none = whole p xs (missing_is (nat_lt (position_or_len p xs) (length xs)) (position_or_len p xs) none)

-- a cookie of a header was added
pub one_cookie : (xs piece rest : List ℕ) (end : ℕ) (a b : ArrayData) → Some end ≡ position is_semicolon xs → piece ≡ take end xs → rest ≡ drop (end + 1) xs → b ≡ with_cookie piece a
    → with_cookies (slice_split is_semicolon rest) b ≡ with_cookies (slice_split is_semicolon xs) a
one_cookie xs piece rest end a b found front back is =
    (λ i. with_cookies (slice_split is_semicolon (back i)) (is i)) ∙ ap (λ p. with_cookies (slice_split is_semicolon (drop (end + 1) xs)) (with_cookie p a)) front
    ∙ sym (ap (λ ps. with_cookies ps a) (split_at_first is_semicolon xs end (sym found)))

pub last_cookie : (xs : List ℕ) (a b : ArrayData) → None ≡ position is_semicolon xs → b ≡ with_cookie xs a → b ≡ with_cookies (slice_split is_semicolon xs) a
last_cookie xs a b none is = is ∙ sym (ap (λ ps. with_cookies ps a) (split_whole is_semicolon xs (sym none)))
