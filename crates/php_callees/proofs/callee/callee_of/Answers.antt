use Rattle.std.proofs.Common.{sym, ◌∙◌}
use Rattle.php_callees.proofs.Found.{found_callee, no_function}
use Rattle.php_callees.proofs.callee.callee_of.Goals as goal

pub returns-in-Some-clause-callee : goal.returns-in-Some-clause-callee
returns-in-Some-clause-callee c = λ t. sym (found_callee t c.args.name.now c.args.functions.now _ _ c.get.ensures c.in-Some.is)

pub returns-clause-callee : goal.returns-clause-callee
returns-clause-callee c = λ t. c.library_callee.ensures t ∙ sym (no_function t c.args.name.now c.args.functions.now _ c.get.ensures c.in_default.is)
