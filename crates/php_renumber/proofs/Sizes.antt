-- An element of a list is no deeper than the deepest.
use denote.Param.Weighed.{most, at_most}
use Rattle.std.proofs.Common.{◌≡◌, ℕ, ◌<◌, ◌≤◌, List, length, get_or, ap, arith}

pub within : {X : Type 0} (μ : X → ℕ) (xs : List X) (n : ℕ) (x : X) → n < length xs → x ≡ get_or xs n x → μ x ≤ most μ xs
within μ xs n x less is = let h = at_most μ xs n x less in let f = ap μ is in omega (arith, h, f)
