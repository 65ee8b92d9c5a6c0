use Rattle.std.proofs.Common.{◌≡◌, ℕ, ◌+◌, ◌-◌, length}
use Rattle.php_world.specs.Slots.{slot_in}
use Rattle.php_world.proofs.scopes.grow.Given as goal

abbrev pub invariant-loop-slots : goal.invariant-loop-slots
invariant-loop-slots l = (n : ℕ) → slot_in l.slots.items n ≡ slot_in l.initial.slots.items n

abbrev pub decreases-loop-slots : goal.decreases-loop-slots
decreases-loop-slots l = l.number + 1 - length l.slots.items
