use Rattle.std.proofs.Common.{◌≡◌}
use Rattle.php_values.specs.Compare.{first_order}
use Rattle.php_values.specs.Meeting.{around}
use Rattle.php_values.specs.Ranking.{order_beside}
use Rattle.php_values.proofs.order.walk_all.Given as goal

abbrev pub invariant-loop : goal.invariant-loop
invariant-loop l = order_beside l.initial.first ≡ around first_order order_beside l.above.items (order_beside l.beside)
