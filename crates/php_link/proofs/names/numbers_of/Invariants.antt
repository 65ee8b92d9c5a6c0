use Rattle.php_link.proofs.Goings.{SoFar}
use Rattle.php_link.proofs.names.numbers_of.Given as goal

abbrev pub invariant-loop-variable : goal.invariant-loop-variable
invariant-loop-variable l = SoFar l.initial.names l.names l.variables l.variable-index l.others
