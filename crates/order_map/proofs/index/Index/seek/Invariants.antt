use Rattle.std.proofs.Common.{length}
use Rattle.order_map.proofs.Chains.{Seeks}
use Rattle.order_map.proofs.index.Index.seek.Given as goal

abbrev pub invariant-loop-at : goal.invariant-loop-at
invariant-loop-at g l = Seeks (length l.self.heads.items) l.key l.entries l.at

abbrev pub decreases-loop-at : goal.decreases-loop-at
decreases-loop-at g l = l.at
