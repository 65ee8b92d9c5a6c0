use Rattle.php_statement_steps.proofs.Going.{each-list}
use Rattle.php_statement_steps.proofs.foreach.each_of.Goals as goal

pub returns-in-List : goal.returns-in-List
returns-in-List c = λ stack t w k. each-list t c.args.of _ _ _ c.in-List.is c.new.ensures w _
