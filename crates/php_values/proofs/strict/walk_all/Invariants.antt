use Rattle.std.proofs.Common.{◌≡◌, ◌&&◌}
use Rattle.php_values.specs.Meeting.{around}
use Rattle.php_values.specs.Identity.{same_both}
use Rattle.php_values.proofs.strict.walk_all.Given as goal

abbrev pub invariant-loop : goal.invariant-loop
invariant-loop l = same_both l.initial.first ≡ around (λ a b. a && b) same_both l.above.items (same_both l.both)
