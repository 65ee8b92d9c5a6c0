use Rattle.std.proofs.Common.{◌≡◌, ℕ, List, drop}
use Rattle.php_frames.specs.Course.{World, Then}
use Rattle.php_frames.specs.Statements.{block}
use Rattle.php_frames.specs.Progress.{resumed}
use Rattle.php_tree.specs.StatementOf.{statements_of}
use Rattle.plain_page.specs.Pages.{shown_all}
use Rattle.plain_page.proofs.page.run_statements.Given as goal

abbrev pub invariant-loop-statement : goal.invariant-loop-statement
invariant-loop-statement l = (path : List ℕ) (w : World) (k : Then) → resumed path l.initial.run (block (shown_all (statements_of l.statements)) w k) ≡ resumed path l.run (block (shown_all (statements_of (drop l.statement-index l.statements))) w k)
