use Rattle.std.proofs.Common.{◌≡◌, map, Some}
use Rattle.turn_store.proofs.open.slots_of.Given as goal

abbrev pub invariant-loop-value : goal.invariant-loop-value
invariant-loop-value g l = l.slots.items ≡ map Some l.yielded
