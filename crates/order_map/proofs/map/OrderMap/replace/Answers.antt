use Rattle.std.proofs.Common.{sym}
use Rattle.order_map.specs.Arrays.{pairs_of, next_of, place_of}
use Rattle.order_map.proofs.Entries.{missing}
use Rattle.order_map.proofs.map.OrderMap.replace.Goals as goal

pub returns-in_default-clause-found : goal.returns-in_default-clause-found
unfolding pairs_of next_of place_of
returns-in_default-clause-found g c = sym (missing c.args.key.now c.args.self.now.entries c.in_default.ensures).look_is
