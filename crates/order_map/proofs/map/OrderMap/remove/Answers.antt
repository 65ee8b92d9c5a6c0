use Rattle.std.proofs.Common.{sym}
use Rattle.order_map.specs.Arrays.{pairs_of, next_of, place_of}
use Rattle.order_map.proofs.Entries.{missing}
use Rattle.order_map.proofs.map.OrderMap.remove.Goals as goal

pub returns-in_default-clause-value : goal.returns-in_default-clause-value
unfolding pairs_of next_of place_of
returns-in_default-clause-value g c = sym (missing c.args.key.now c.args.self.now.entries c.in_default.ensures).look_is

pub returns-in_default-clause-pairs : goal.returns-in_default-clause-pairs
unfolding pairs_of next_of place_of
returns-in_default-clause-pairs g c = sym (missing c.args.key.now c.args.self.now.entries c.in_default.ensures).cuts
