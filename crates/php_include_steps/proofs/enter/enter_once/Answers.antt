use Rattle.std.proofs.Common.{◌∙◌}
use Rattle.php_rest.specs.Rest.{rest}
use Rattle.php_state.specs.Views.{world_of}
use Rattle.php_include_steps.proofs.Files.{told, once_entered, not_again}
use Rattle.php_include_steps.proofs.enter.enter_once.Goals as goal

pub returns-then-has-clause-law : goal.returns-then-has-clause-law
returns-then-has-clause-law c = λ t k.
    not_again c.args.path.now (world_of t c.args.state.now) (rest t c.args.stack.now k) (told c.args.path.now c.as_slice.result.now c.args.state.now.entered c.has.result _ c.as_slice.ensures c.has.ensures c.if-has.true)

pub returns-clause-law : goal.returns-clause-law
returns-clause-law c = λ t k.
    c.in_ok-now.ensures.law t k
    ∙ once_entered c.args.path.now (world_of t c.args.state.now) (rest t c.args.stack.now k) (told c.args.path.now c.as_slice.result.now c.args.state.now.entered c.has.result _ c.as_slice.ensures c.has.ensures c.if-has.false)
