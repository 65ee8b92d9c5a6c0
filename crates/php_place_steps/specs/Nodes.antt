-- Nodes that write, by their parts.
use Rattle.php_tree.specs.Expressions as e
use Rattle.php_tree.specs.Expressions.{Expression}
use Rattle.php_tree.specs.declared.expr.AssignOp.{AssignOp}
use Rattle.php_tree.specs.declared.expr.StepOp.{StepOp}
use Rattle.php_world.specs.declared.reading.Reading.TheVariants.{Plain}
use Rattle.php_meaning.specs.World.{Name}
use Rattle.php_meaning.specs.Course.{Does}
use Rattle.php_meaning.specs.Expressions.{read}

-- `=` and its kin; the line of the node does not count
abbrev pub assigns : Expression Name → AssignOp → Expression Name → Does
assigns place op value = read Plain (e.assign place op value 0)

-- `++` and `--`
abbrev pub step_node : StepOp → Expression Name → Does
step_node op place = read Plain (e.step op place 0)
