use Rattle.php_declarations.proofs.Fitting.{Left}
use Rattle.php_declarations.proofs.statics.bind_statics.Given as goal

abbrev pub invariant-loop-variable : goal.invariant-loop-variable
invariant-loop-variable l = Left l.initial.state l.state l.variables l.variable-index
