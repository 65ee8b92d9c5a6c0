use Rattle.std.proofs.Common.{◌≡◌, length}
use Rattle.php_grammar.specs.Act.{filled}
use Rattle.php_tree.specs.ExpressionOf.{expressions_of}
use Rattle.php_building.specs.Quotes.{parts_before}
use Rattle.php_building.proofs.quote.filled.Given as goal

abbrev pub invariant-turn : goal.invariant-turn
invariant-turn l = parts_before l.done (filled l.left (expressions_of l.embedded)) ≡ filled l.fn.parts (expressions_of l.fn.exprs)

abbrev pub decreases-turn : goal.decreases-turn
decreases-turn l = length l.left
