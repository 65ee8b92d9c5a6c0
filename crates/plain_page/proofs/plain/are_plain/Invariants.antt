use Rattle.std.proofs.Common.{◌≡◌, drop}
use Rattle.php_tree.specs.StatementOf.{statements_of}
use Rattle.plain_page.specs.Pages.{are_plain}
use Rattle.plain_page.proofs.plain.are_plain.Given as goal

abbrev pub invariant-loop-statement : goal.invariant-loop-statement
invariant-loop-statement l = are_plain (statements_of l.statements) ≡ are_plain (statements_of (drop l.statement-index l.statements))
