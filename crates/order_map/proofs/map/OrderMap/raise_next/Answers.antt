use Rattle.std.proofs.Common.{arith}
use Rattle.order_map.specs.Arrays.{pairs_of, next_of, place_of, pairs_in, keys_of}
use Rattle.order_map.proofs.Keys.{all_below-more}
use Rattle.order_map.proofs.map.OrderMap.raise_next.Goals as goal

pub invariant_of-self : goal.invariant_of-self
unfolding pairs_of next_of place_of
invariant_of-self g c = record { distinct = c.self.invariant.distinct; below = all_below-more (keys_of (pairs_in c.self.inside.entries.items)) c.self.inside.next c.args.next (omega arith) c.self.invariant.below; within = c.requires; counted = c.self.invariant.counted; passed = c.self.invariant.passed; indexed = c.self.invariant.indexed }
