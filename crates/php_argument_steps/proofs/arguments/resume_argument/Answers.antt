use Rattle.std.proofs.Common.{◌∙◌}
use Rattle.php_state.specs.Views.{world_of}
use Rattle.php_rest.specs.Rest.{rest}
use Rattle.php_argument_steps.proofs.Handing.{value_given}
use Rattle.php_argument_steps.proofs.arguments.resume_argument.Goals as goal

pub returns-clause-law : goal.returns-clause-law
returns-clause-law c = λ t k.
    c.in_ok-reached.ensures.law t k
    ∙ value_given t c.args.callee c.args.so_far c.push.new.self c.args.value c.args.more (world_of t c.args.state.now) (rest t c.args.stack.now k) c.in_ok-push.ensures.ok
