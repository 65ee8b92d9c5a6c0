use Rattle.std.proofs.Common.{rules}
use Rattle.turn_store.proofs.Joining.{splits}
use Rattle.turn_store.proofs.store.SharedTurns.split.Goals as goal

pub split_seat-requires : goal.split_seat-requires
split_seat-requires g c = (search rules, search rules, splits _ _ _ _)
