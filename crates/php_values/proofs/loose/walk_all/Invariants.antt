use Rattle.std.proofs.Common.{◌≡◌}
use Rattle.php_values.specs.Compare.{all_equal}
use Rattle.php_values.specs.Meeting.{around, equal_beside}
use Rattle.php_values.proofs.loose.walk_all.Given as goal

abbrev pub invariant-loop : goal.invariant-loop
invariant-loop l = equal_beside l.initial.first ≡ around all_equal equal_beside l.above.items (equal_beside l.beside)
