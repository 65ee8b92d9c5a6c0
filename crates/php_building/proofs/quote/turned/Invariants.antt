use Rattle.std.proofs.Common.{◌≡◌, length, ◌++◌}
use Rattle.php_building.proofs.quote.turned.Given as goal

abbrev pub invariant-turn : goal.invariant-turn
invariant-turn l = l.fn.parts ≡ l.parts ++ l.turned

abbrev pub decreases-turn : goal.decreases-turn
decreases-turn l = length l.parts
