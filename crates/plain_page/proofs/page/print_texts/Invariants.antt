use Rattle.std.proofs.Common.{◌≡◌, ℕ, List, drop}
use Rattle.php_frames.specs.Course.{Course}
use Rattle.php_frames.specs.Statements.{prints}
use Rattle.php_frames.specs.Progress.{resumed}
use Rattle.php_tree.specs.ExpressionOf.{expressions_of}
use Rattle.plain_page.specs.Pages.{texts_of}
use Rattle.plain_page.proofs.page.print_texts.Given as goal

abbrev pub invariant-loop-expression : goal.invariant-loop-expression
invariant-loop-expression l = (path : List ℕ) (course : Course) → resumed path l.initial.run (prints (texts_of (expressions_of l.expressions)) course) ≡ resumed path l.run (prints (texts_of (expressions_of (drop l.expression-index l.expressions))) course)
