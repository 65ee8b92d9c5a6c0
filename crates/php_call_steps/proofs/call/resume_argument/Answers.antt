use Rattle.php_bindings.proofs.Alike.{alike_then}
use Rattle.php_call_steps.proofs.call.resume_argument.Goals as goal

pub returns-clause-law : goal.returns-clause-law
returns-clause-law c = λ t k. alike_then (c.in_ok-now.ensures.law t k) (c.in_ok-reached.ensures.law t k)
