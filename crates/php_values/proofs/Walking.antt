-- Steps of a walk.
use Rattle.std.proofs.Common.{◌≡◌, ℕ, zero, suc, ◌+◌, ◌≤◌, List, [], ◌∷◌, length, drop, slice_get, Some, refl, sym, ap, arith, rules}

-- nothing is left at the end
pub none_left : {A : Type 0} (xs : List A) (i : ℕ) → length xs ≤ i → drop i xs ≡ []
none_left [] zero h = refl
none_left [] (suc i) h = refl
none_left (x ∷ xs) zero h = search (rules, h)
none_left (x ∷ xs) (suc i) h = none_left xs i (omega (arith, h))

-- the item at a place stands at the front of what is left there
pub one_left : {A : Type 0} (xs : List A) (i : ℕ) (x : A) → Some x ≡ slice_get xs i → drop i xs ≡ x ∷ drop (i + 1) xs
one_left [] i x e = search rules
one_left (y ∷ xs) zero x e = let q : x ≡ y = cc in ap (λ z. z ∷ xs) (sym q)
one_left (y ∷ xs) (suc i) x e = let n : suc i + 1 ≡ suc (i + 1) = omega arith in rw n (one_left xs i x e)
