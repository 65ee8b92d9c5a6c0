use Rattle.std.proofs.Common.{◌≡◌, length}
use Rattle.order_map.specs.Arrays.{pairs_of, next_of}
use Rattle.order_map.proofs.map.OrderMap.pop.Given as goal

abbrev pub invariant-loop-entry : goal.invariant-loop-entry
invariant-loop-entry g l = (pairs_of l.self ≡ pairs_of l.initial.self) × (next_of l.self ≡ next_of l.initial.self)

abbrev pub decreases-loop-entry : goal.decreases-loop-entry
decreases-loop-entry g l = length l.self.entries
