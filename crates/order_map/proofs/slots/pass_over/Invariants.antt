use Rattle.std.proofs.Common.{◌≡◌, ◌-◌, [], take, length}
use Rattle.order_map.specs.Arrays.{pairs_in}
use Rattle.order_map.proofs.slots.pass_over.Given as goal

abbrev pub invariant-loop-at : goal.invariant-loop-at
invariant-loop-at g l = pairs_in (take l.at l.entries) ≡ []

abbrev pub decreases-loop-at : goal.decreases-loop-at
decreases-loop-at g l = length l.entries - l.at
