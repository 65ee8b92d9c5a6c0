-- Tokens as marks.
use Rattle.std.proofs.Common.{◌≡◌, ℕ, ◌+◌, List, [], ◌∷◌, ◌++◌, length, take, drop, cond, nat_eq, slice_set, refl, ap, ◌∙◌, arith}
use Rattle.std.proofs.Math.Seq.{take-add}
use Rattle.std.proofs.lemmas.List.Sums.{sum_by-append}
use Rattle.less_terms.specs.Lines.{line_at, newlines}
use Rattle.php_lexer.specs.Bytes.{cut}

-- what stands in a place that was kept free
pub set_kept : {A : Type 0} (before : List A) (hole x : A) (after : List A) → slice_set (before ++ hole ∷ after) (length before) x ≡ before ++ x ∷ after
set_kept [] hole x after = refl
set_kept (y ∷ ys) hole x after = ap (λ zs. y ∷ zs) (set_kept ys hole x after)

newlines-append : (xs ys : List ℕ) → newlines (xs ++ ys) ≡ newlines xs + newlines ys
newlines-append xs ys = sum_by-append (λ byte. cond (nat_eq byte 10) 1 0) xs ys

-- the lines of a place further on
pub line_past : (t : List ℕ) (i n : ℕ) → line_at t i + newlines (cut t i n) ≡ line_at t (i + n)
line_past t i n =
    let parts : newlines (take (i + n) t) ≡ newlines (take i t) + newlines (take n (drop i t)) =
    ap newlines (take-add i n t) ∙ newlines-append (take i t) (take n (drop i t)) in
    omega arith
