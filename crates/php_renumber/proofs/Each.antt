-- Lists whose elements have something to do with each other, one by one.
use Rattle.std.proofs.Common.{◌≡◌, ℕ, zero, suc, ◌+◌, ◌<◌, ◌≤◌, List, [], ◌∷◌, ◌++◌, length, take, get_or, subst, sym, add-one, arith}

abbrev pub Each : {A B : Type 0} → (A → B → Type 0) → List A → List B → Type 0
Each R [] [] = Unit {0}
Each R [] (y ∷ ys) = ⊥
Each R (x ∷ xs) [] = ⊥
Each R (x ∷ xs) (y ∷ ys) = R x y × Each R xs ys

-- before the first
pub each_begins : {A B : Type 0} (R : A → B → Type 0) (xs : List A) (ys : List B) → ys ≡ [] → Each R (take 0 xs) ys
each_begins R xs ys e = subst (λ (z : List _). Each R (take 0 xs) z) (sym e) tt

one_more : {A B : Type 0} (R : A → B → Type 0) (xs : List A) (i : ℕ) (x : A) (ys : List B) (y : B) → i < length xs → x ≡ get_or xs i x → Each R (take i xs) ys → R x y → Each R (take (suc i) xs) (ys ++ y ∷ [])
one_more R [] i x ys y less is so_far one = absurd (omega arith)
one_more R (z ∷ xs) zero x [] y less is so_far one = (subst (λ (v : _). R v y) is one, tt)
one_more R (z ∷ xs) zero x (w ∷ ws) y less is so_far one = absurd so_far
one_more R (z ∷ xs) (suc i) x [] y less is so_far one = absurd so_far
one_more R (z ∷ xs) (suc i) x (w ∷ ws) y less is so_far one = (so_far.0, one_more R xs i x ws y (omega arith) is so_far.1 one)

-- with one element more
pub each_goes_on : {A B : Type 0} (R : A → B → Type 0) (xs : List A) (i : ℕ) (x : A) (ys : List B) (y : B) (zs : List B)
    → i < length xs → x ≡ get_or xs i x → Each R (take i xs) ys → R x y → zs ≡ ys ++ y ∷ [] → Each R (take (i + 1) xs) zs
each_goes_on R xs i x ys y zs less is so_far one e =
    subst (λ (z : List _). Each R (take (i + 1) xs) z) (sym e) (rw add-one (one_more R xs i x ys y less is so_far one))

-- after the last
pub each_ends : {A B : Type 0} (R : A → B → Type 0) (xs : List A) (i : ℕ) (ys : List B) → length xs ≤ i → Each R (take i xs) ys → Each R xs ys
each_ends R [] zero ys past all = all
each_ends R [] (suc i) ys past all = all
each_ends R (x ∷ xs) zero ys past all = absurd (omega arith)
each_ends R (x ∷ xs) (suc i) [] past all = absurd all
each_ends R (x ∷ xs) (suc i) (y ∷ ys) past all = (all.0, each_ends R xs i ys (omega arith) all.1)
