-- Which statements begin with a tick, and which have steps of their own behind it.
use Rattle.std.specs.Prelude.{Bool, true, false}
use Rattle.php_tree.specs.Statements as s
use Rattle.php_tree.specs.Statements.{Statement}
use Rattle.php_statement_steps.specs.declared.kind.StmtKind.{StmtKind}
use Rattle.php_statement_steps.specs.declared.kind.StmtKind.TheVariants.{Quiet, Plain, Own}

abbrev pub kind_of : {V : Type 0} → Statement V → StmtKind
kind_of (s.nothing l) = Quiet
kind_of (s.block ss l) = Quiet
kind_of (s.removed what path name l) = Quiet
kind_of (s.static_vars xs l) = Own
kind_of (s.function f l) = Own
kind_of (s.return e l) = Own
kind_of (s.switch e cs l) = Own
kind_of (s.constants cs l) = Own
kind_of _ = Plain
