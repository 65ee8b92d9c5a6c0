use Rattle.std.proofs.Common.{sym, ◌∙◌}
use Rattle.order_map.specs.Arrays.{pairs_of, next_of, place_of}
use Rattle.order_map.proofs.Entries.{missing}
use Rattle.order_map.proofs.map.OrderMap.set.Goals as goal

pub push-requires : goal.push-requires
unfolding pairs_of next_of place_of
push-requires g c = (missing c.args.key c.args.self.now.entries c.in_default.ensures).look_is

pub returns-in_default-clause-old : goal.returns-in_default-clause-old
unfolding pairs_of next_of place_of
returns-in_default-clause-old g c = sym (missing c.args.key c.args.self.now.entries c.in_default.ensures).look_is

pub returns-in_default-clause-pairs : goal.returns-in_default-clause-pairs
unfolding pairs_of next_of place_of
returns-in_default-clause-pairs g c = c.in_ok-push.ensures.pairs ∙ sym ((missing c.args.key c.args.self.now.entries c.in_default.ensures).puts c.args.value)
