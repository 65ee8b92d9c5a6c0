use Rattle.std.proofs.Common.{◌≡◌, vec_len}
use Rattle.order_map.specs.Arrays.{pairs_in}
use Rattle.order_map.proofs.values.pop_value.Given as goal

abbrev pub invariant-loop-entry : goal.invariant-loop-entry
invariant-loop-entry g l = pairs_in l.rest.items ≡ pairs_in l.initial.rest.items

abbrev pub decreases-loop-entry : goal.decreases-loop-entry
decreases-loop-entry g l = vec_len l.rest
