use Rattle.std.proofs.Common.{◌≡◌, ◌-◌, drop, slice_get, length}
use Rattle.order_map.specs.Arrays.{full_slots}
use Rattle.order_map.proofs.slots.full_from.Given as goal

abbrev pub invariant-loop-at : goal.invariant-loop-at
invariant-loop-at g l = slice_get (full_slots l.fn.from (drop l.fn.from l.entries)) 0 ≡ slice_get (full_slots l.at (drop l.at l.entries)) 0

abbrev pub decreases-loop-at : goal.decreases-loop-at
decreases-loop-at g l = length l.entries - l.at
