-- What the beginning of an operand stands for.
use Rattle.php_grammar.specs.Act as g
use Rattle.php_tree.specs.ExpressionOf.{expression_of}
use Rattle.php_building.specs.declared.operand.Begun.{Begun}
use Rattle.php_building.specs.declared.operand.Begun.TheVariants as b

abbrev pub begun_of : Begun → g.Begun
begun_of (b.Word text line) = g.word text line
begun_of (b.Variable number line) = g.variable number line
begun_of (b.NewClass name line) = g.new_class name line
begun_of (b.NewVariable number line) = g.new_variable number line
begun_of (b.Given expr) = g.given (expression_of expr)
