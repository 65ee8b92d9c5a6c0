-- Sizes of marks and of what they tell.
use Rattle.std.proofs.Common.{◌≡◌, ℕ, ◌+◌, ◌<◌, ◌≤◌, min, List, [], ◌∷◌, refl, sym, ap, ◌∙◌, drop, arith, get_or, length}
use Rattle.std.proofs.lemmas.List.{drop_all}
use Rattle.session_book.proofs.Lists.{drop-item}
use Rattle.php_values.specs.Data.{Pairs, no_pairs}
use Rattle.session_book.specs.declared.mark.Mark.{Mark}
use Rattle.session_book.specs.declared.mark.Mark.TheVariants.{Pair, Open, Close}
use Rattle.session_book.specs.Marks.{innermost, with_mark, with_marks, told, content, IsWritten}
use Rattle.session_book.specs.Sizes.{pairs_size, array_size}
use Rattle.session_book.specs.Steps.{mark_size, marks_size}

abbrev levels_size : List Pairs → ℕ
levels_size [] = 0
levels_size (ps ∷ pss) = pairs_size ps + levels_size pss

mark-size : (m : Mark) (pss : List Pairs) → levels_size (with_mark m pss) ≡ mark_size m + levels_size pss
mark-size (Pair k s) [] = omega arith
mark-size (Pair k s) (ps ∷ pss) = omega arith
mark-size (Open k next) [] = omega arith
mark-size (Open k next) (ps ∷ []) = omega arith
mark-size (Open k next) (ps ∷ qs ∷ pss) = omega arith
mark-size Close pss = omega arith

all-sizes : (ms : List Mark) (pss : List Pairs) → levels_size (with_marks ms pss) ≡ marks_size ms + levels_size pss
all-sizes [] pss = omega arith
all-sizes (m ∷ ms) pss = let a = mark-size m (with_marks ms pss) in let b = all-sizes ms pss in omega arith

one-level : (pss : List Pairs) → drop 1 pss ≡ [] → levels_size pss ≡ pairs_size (innermost pss)
one-level [] e = refl
one-level (ps ∷ pss) e = let z : levels_size pss ≡ 0 = ap levels_size e in omega arith

-- the size of what marks tell is the sum of theirs, and 5
pub written-size : (ms : List Mark) (next : ℕ) → IsWritten ms next → array_size (content ms next) ≡ 5 + marks_size ms
written-size ms next w =
    let a = all-sizes ms (no_pairs ∷ []) in
    let b = one-level (told ms) w.closed in
    omega arith

-- ---- a sum that stops at the end of its type

-- the sizes of the marks before a place, and of those still to come
pub record Summed (ms : List Mark) (size i : ℕ) : Type 0 where
  pub sum : min (size + marks_size (drop i ms)) 18446744073709551615 ≡ min (5 + marks_size ms) 18446744073709551615
  pub within : size ≤ 18446744073709551615

pub summed-none : (ms : List Mark) → Summed ms 5 0
summed-none ms = record { sum = refl; within = omega arith }

sum-step : (size new one n rest whole : ℕ) → n ≡ min (size + one) 18446744073709551615 → one ≡ min new 18446744073709551615 → min (size + (new + rest)) 18446744073709551615 ≡ whole → min (n + rest) 18446744073709551615 ≡ whole
sum-step size new one n rest whole en eo h = omega arith

pub summed-step : (ms : List Mark) (size i : ℕ) (m : Mark) (one n : ℕ) → Summed ms size i → i < length ms → m ≡ get_or ms i m → one ≡ min (mark_size m) 18446744073709551615 → n ≡ min (size + one) 18446744073709551615 → Summed ms n (i + 1)
summed-step ms size i m one n h l e eo en = record {
  sum = sum-step size (mark_size m) one n (marks_size (drop (i + 1) ms)) (min (5 + marks_size ms) 18446744073709551615) en eo
      (sym (ap (λ l. min (size + marks_size l) 18446744073709551615) (drop-item ms i m l e)) ∙ h.sum);
  within = omega arith;
}

pub summed-all : (ms : List Mark) (size i whole : ℕ) → Summed ms size i → length ms ≤ i → whole ≡ 5 + marks_size ms → size ≡ min whole 18446744073709551615
summed-all ms size i whole h l e =
    let z : marks_size (drop i ms) ≡ 0 = ap marks_size (drop_all i ms l) in
    let s = h.sum in
    let w = h.within in
    omega arith
