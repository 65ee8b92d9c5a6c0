use Rattle.std.proofs.Common.{◌≡◌, drop}
use Rattle.php_tree.specs.ExpressionOf.{expressions_of}
use Rattle.plain_page.specs.Pages.{are_texts}
use Rattle.plain_page.proofs.plain.are_texts.Given as goal

abbrev pub invariant-loop-expression : goal.invariant-loop-expression
invariant-loop-expression l = are_texts (expressions_of l.expressions) ≡ are_texts (expressions_of (drop l.expression-index l.expressions))
