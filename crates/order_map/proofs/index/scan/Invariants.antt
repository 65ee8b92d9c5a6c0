use Rattle.std.proofs.Common.{◌≡◌, ◌<◌, ℕ, false, slice_get}
use Rattle.order_map.specs.Chains.{holds}
use Rattle.order_map.proofs.index.scan.Given as goal

abbrev pub invariant-loop-i : goal.invariant-loop-i
invariant-loop-i g l = (j : ℕ) → j < l.i → holds l.key (slice_get l.entries j) ≡ false
