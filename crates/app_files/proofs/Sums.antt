-- How far the bytes of files were counted against a limit.
use Rattle.std.proofs.Common.{◌≡◌, ℕ, ◌+◌, ◌-◌, ◌<◌, ◌≤◌, true, false, List, length, map, get_or, drop, nat_lt, sym, ap, ◌∙◌, arith}
use Rattle.std.specs.List.{sum_by}
use Rattle.std.proofs.lemmas.Bool.Decides.{nat_tests}
use Rattle.std.proofs.lemmas.List.{at_drop_more, at_drop_all}
use Rattle.std.proofs.lemmas.List.Sums.{sum_by-cons}

-- so many are left of the limit, and these are still to be counted
pub record Counted {X : Type 0} (size : X → ℕ) (limit left : ℕ) (rest all : List X) : Type 0 where
  pub sum : sum_by size all + left ≡ limit + sum_by size rest

module _ {X Y : Type 0} (size : X → ℕ) (f : Y → X) where
  abbrev total : List Y → ℕ
  total xs = sum_by size (map f xs)

  next : (xs : List Y) (i : ℕ) (x : Y) → i < length xs → x ≡ get_or xs i x → total (drop i xs) ≡ size (f x) + total (drop (i + 1) xs)
  next xs i x h e = at_drop_more total xs i x h ∙ (sum_by-cons size (f (get_or xs i x)) (map f (drop (i + 1) xs)) ∙ ap (λ y. size (f y) + total (drop (i + 1) xs)) (sym e))

  pub sum_begins : (limit : ℕ) (xs : List Y) → Counted size limit limit (map f (drop 0 xs)) (map f xs)
  sum_begins limit xs = record { sum = omega arith }

  pub sum_goes_on : (limit left len : ℕ) (xs : List Y) (i : ℕ) (x : Y) → Counted size limit left (map f (drop i xs)) (map f xs) → i < length xs → x ≡ get_or xs i x
      → len ≡ size (f x) → len ≤ left → Counted size limit (left - len) (map f (drop (i + 1) xs)) (map f xs)
  sum_goes_on limit left len xs i x counted h e is within = let more = next xs i x h e in record { sum = omega arith }

  pub sum_passes : (limit left len : ℕ) (xs : List Y) (i : ℕ) (x : Y) → Counted size limit left (map f (drop i xs)) (map f xs) → i < length xs → x ≡ get_or xs i x
      → len ≡ size (f x) → left < len → true ≡ nat_lt limit (total xs)
  sum_passes limit left len xs i x counted h e is past =
      let more = next xs i x h e in
      let above : limit < total xs = omega arith in
      grind (arith, nat_tests)

  pub sum_ends : (limit left : ℕ) (xs : List Y) (i : ℕ) → Counted size limit left (map f (drop i xs)) (map f xs) → length xs ≤ i → false ≡ nat_lt limit (total xs)
  sum_ends limit left xs i counted h =
      let none : total (drop i xs) ≡ 0 = at_drop_all total xs i h in
      let within : total xs ≤ limit = omega arith in
      grind (arith, nat_tests)
