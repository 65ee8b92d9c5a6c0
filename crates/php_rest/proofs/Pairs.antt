-- Steps of a walk.
use Rattle.std.proofs.Common.{◌≡◌, ℕ, zero, suc, ◌+◌, List, [], ◌∷◌, drop, slice_get, Some, refl, sym, ap, arith, rules}

-- what is left behind the next item
pub dropped : {A : Type 0} (xs : List A) (i : ℕ) → drop 1 (drop i xs) ≡ drop (i + 1) xs
dropped [] zero = refl
dropped [] (suc i) = let n : suc i + 1 ≡ suc (i + 1) = omega arith in rw n refl
dropped (x ∷ xs) zero = refl
dropped (x ∷ xs) (suc i) = let n : suc i + 1 ≡ suc (i + 1) = omega arith in rw n (dropped xs i)

-- the item at a place stands at the front of what is left there
pub one_left : {A : Type 0} (xs : List A) (i : ℕ) (x : A) → Some x ≡ slice_get xs i → drop i xs ≡ x ∷ drop 1 (drop i xs)
one_left [] i x e = search rules
one_left (y ∷ xs) zero x e = let q : x ≡ y = cc in ap (λ z. z ∷ xs) (sym q)
one_left (y ∷ xs) (suc i) x e = one_left xs i x e
