-- Elements of lists after a write and behind a push.
use Rattle.std.proofs.Common.{rules, arith, ◌≡◌, ℕ, zero, suc, ◌+◌, ◌<◌, ◌≤◌, List, [], ◌∷◌, ◌++◌, refl, sym, ap, Some, None, length, slice_get, slice_set, replicate, get_or}

module _ {X : Type 0} where
  pub set-here : (xs : List X) (i : ℕ) (x : X) → i < length xs → slice_get (slice_set xs i x) i ≡ Some x
  set-here [] i x h = absurd (omega arith)
  set-here (y ∷ ys) zero x h = refl
  set-here (y ∷ ys) (suc i) x h = set-here ys i x (omega arith)

  pub set-there : (xs : List X) (i j : ℕ) (x : X) → (i ≡ j → ⊥) → slice_get (slice_set xs i x) j ≡ slice_get xs j
  set-there [] i j x h = refl
  set-there (y ∷ ys) zero zero x h = absurd (h refl)
  set-there (y ∷ ys) zero (suc j) x h = refl
  set-there (y ∷ ys) (suc i) zero x h = refl
  set-there (y ∷ ys) (suc i) (suc j) x h = set-there ys i j x (λ e. h (ap suc e))

  pub set-long : (xs : List X) (i : ℕ) (x : X) → length (slice_set xs i x) ≡ length xs
  set-long [] i x = refl
  set-long (y ∷ ys) zero x = refl
  set-long (y ∷ ys) (suc i) x = ap suc (set-long ys i x)

  pub get-front : (xs : List X) (x : X) (i : ℕ) → i < length xs → slice_get (xs ++ x ∷ []) i ≡ slice_get xs i
  get-front [] x i h = absurd (omega arith)
  get-front (y ∷ ys) x zero h = refl
  get-front (y ∷ ys) x (suc i) h = get-front ys x i (omega arith)

  pub get-last : (xs : List X) (x : X) → slice_get (xs ++ x ∷ []) (length xs) ≡ Some x
  get-last [] x = refl
  get-last (y ∷ ys) x = get-last ys x

  pub get-past : (xs : List X) (i : ℕ) → length xs ≤ i → slice_get xs i ≡ None
  get-past [] i h = refl
  get-past (x ∷ xs) zero h = absurd (omega arith)
  get-past (x ∷ xs) (suc i) h = get-past xs i (omega arith)

  pub get-replicated : (n i : ℕ) (x : X) → i < n → slice_get (replicate n x) i ≡ Some x
  get-replicated zero i x h = absurd (omega arith)
  get-replicated (suc n) zero x h = refl
  get-replicated (suc n) (suc i) x h = get-replicated n i x (omega arith)

  -- what an index gives, as an option
  pub got : (xs : List X) (i : ℕ) (x : X) → i < length xs → x ≡ get_or xs i x → slice_get xs i ≡ Some x
  got [] i x l e = absurd (omega arith)
  got (y ∷ xs) zero x l e = ap Some (sym e)
  got (y ∷ xs) (suc i) x l e = got xs i x (omega arith) e

  pub there : (xs : List X) (i : ℕ) (d : X) → i < length xs → slice_get xs i ≡ Some (get_or xs i d)
  there [] i d l = absurd (omega arith)
  there (x ∷ xs) zero d l = refl
  there (x ∷ xs) (suc i) d l = there xs i d (omega arith)

  pub get-inside : (xs : List X) (i : ℕ) (x : X) → slice_get xs i ≡ Some x → i < length xs
  get-inside [] i x e = search rules
  get-inside (y ∷ xs) zero x e = omega arith
  get-inside (y ∷ xs) (suc i) x e = let l = get-inside xs i x e in omega arith

  pub same_some : (x y : X) → Some x ≡ Some y → x ≡ y
  same_some x y e = cc

  pub push-long : (xs : List X) (x : X) → length (xs ++ x ∷ []) ≡ length xs + 1
  push-long [] x = refl
  push-long (y ∷ ys) x = let e = push-long ys x in omega arith
