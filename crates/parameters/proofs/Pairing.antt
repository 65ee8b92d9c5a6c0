-- One pair of a form, over plain values.
use Rattle.std.proofs.Common.{◌≡◌, ℕ, suc, ◌+◌, ◌-◌, ◌<◌, List, ◌∷◌, take, sym, ap, ◌∙◌, arith}
use Rattle.php_values.specs.Data.{ArrayData}
use Rattle.parameters.specs.Parameters.{with_pair, with_pairs}

pub one_pair : (n k : ℕ) (p : List ℕ × List ℕ) (old new : List (List ℕ × List ℕ)) (a b : ArrayData) → k < n → old ≡ p ∷ new → b ≡ with_pair p a
    → with_pairs (take (n - (k + 1)) new) b ≡ with_pairs (take (n - k) old) a
one_pair n k p old new a b less cut is =
    let e : n - k ≡ suc (n - (k + 1)) = omega arith in
    ap (with_pairs (take (n - (k + 1)) new)) is ∙ sym ((λ i. with_pairs (take (e i) (cut i)) a))

pub no_more : (n k : ℕ) (old : List (List ℕ × List ℕ)) (a : ArrayData) → n ≡ k → with_pairs (take (n - k) old) a ≡ a
no_more n k old a is = let e : n - k ≡ 0 = omega arith in ap (λ n. with_pairs (take n old) a) e
