use Rattle.std.proofs.Common.{ap, ◌∙◌}
use Rattle.php_meaning.specs.Course.{Ticks}
use Rattle.php_meaning.specs.Calls as calls
use Rattle.php_rest.specs.Rest.{rest}
use Rattle.php_state.specs.Views.{world_of}
use Rattle.php_argument_steps.specs.Reached.{called_with}
use Rattle.php_argument_steps.proofs.begin.begin_call.Goals as goal

pub returns-clause-law : goal.returns-clause-law
returns-clause-law c = λ how line t k.
    ap (Ticks (world_of t c.args.state.now))
    (c.in_ok-reached.ensures.law t k ∙ ap (λ n. calls.sought n (called_with t c.args.args.now) (world_of t c.args.state.now) (rest t c.args.stack.now k)) c.as_slice.ensures)
