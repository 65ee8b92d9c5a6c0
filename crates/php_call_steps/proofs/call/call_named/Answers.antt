use Rattle.php_bindings.proofs.Alike.{ticked, alike_then}
use Rattle.php_state.specs.Views.{world_of}
use Rattle.php_call_steps.proofs.call.call_named.Goals as goal

pub returns-clause-law : goal.returns-clause-law
returns-clause-law c = λ t k. alike_then (ticked (world_of t c.args.state.now) (c.in_ok-now.ensures.law t k)) (c.in_ok-reached.ensures c.args.stack.now t k)
