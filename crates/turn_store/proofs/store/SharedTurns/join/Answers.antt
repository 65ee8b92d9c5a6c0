use Rattle.std.proofs.Common.{rules, ◌∙◌}
use Rattle.turn_store.proofs.Joining.{joins, no_hand}
use Rattle.turn_store.proofs.store.SharedTurns.join.Goals as goal

pub join_seat-requires : goal.join_seat-requires
join_seat-requires g c = let rest = c.args.other.at_rest in (search rules, search rules, rest.0 ∙ no_hand c.args.self.now.board.shared.key.first c.args.self.now.board.shared.key.values.value.items c.args.other.seat.me.0.hand c.args.other.seat.me.0.held rest.1 c.requires.free, search rules, joins _ _ _ _ _ _ c.requires.free)
