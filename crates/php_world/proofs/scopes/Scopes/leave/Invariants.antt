use Rattle.std.proofs.Common.{length}
use Rattle.php_world.specs.Slots.{IsLeaving}
use Rattle.php_world.proofs.scopes.Scopes.leave.Given as goal

abbrev pub invariant-loop-item : goal.invariant-loop-item
invariant-loop-item l = IsLeaving l.initial.self-inside.items l.self-inside.depth l.self-inside.slots.items l.self-inside.items

abbrev pub decreases-loop-item : goal.decreases-loop-item
decreases-loop-item l = length l.self-inside.items
