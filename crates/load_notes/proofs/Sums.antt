-- Sums over the files of an application, file by file.
use Rattle.std.proofs.Common.{◌≡◌, ℕ, ◌+◌, ◌<◌, ◌≤◌, List, length, map, get_or, drop, sym, ap, ◌∙◌, arith}
use Rattle.std.specs.List.{sum_by}
use Rattle.std.proofs.lemmas.List.{at_drop_more, at_drop_all}
use Rattle.std.proofs.lemmas.List.Sums.{sum_by-cons}

-- so much was added up, and these are still to be added
pub record Added {X : Type 0} (size : X → ℕ) (count : ℕ) (rest all : List X) : Type 0 where
  pub sum : count + sum_by size rest ≡ sum_by size all

module _ {X Y : Type 0} (size : X → ℕ) (f : Y → X) where
  abbrev total : List Y → ℕ
  total xs = sum_by size (map f xs)

  next : (xs : List Y) (i : ℕ) (x : Y) → i < length xs → x ≡ get_or xs i x → total (drop i xs) ≡ size (f x) + total (drop (i + 1) xs)
  next xs i x h e = at_drop_more total xs i x h ∙ (sum_by-cons size (f (get_or xs i x)) (map f (drop (i + 1) xs)) ∙ ap (λ y. size (f y) + total (drop (i + 1) xs)) (sym e))

  pub begins : (xs : List Y) → Added size 0 (map f (drop 0 xs)) (map f xs)
  begins xs = record { sum = omega arith }

  pub goes_on : (count len more : ℕ) (xs : List Y) (i : ℕ) (x : Y) → Added size count (map f (drop i xs)) (map f xs) → i < length xs → x ≡ get_or xs i x
      → len ≡ size (f x) → more ≡ count + len → Added size more (map f (drop (i + 1) xs)) (map f xs)
  goes_on count len more xs i x added h e is sum = let rest = next xs i x h e in let was = added.sum in record { sum = omega arith }

  pub ends : (count : ℕ) (xs : List Y) (i : ℕ) → Added size count (map f (drop i xs)) (map f xs) → length xs ≤ i → count ≡ total xs
  ends count xs i added h = let none : total (drop i xs) ≡ 0 = at_drop_all total xs i h in let was = added.sum in omega arith
