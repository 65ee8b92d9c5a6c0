use Rattle.php_rest.specs.Rest.{rest}
use Rattle.php_state.specs.Views.{world_of}
use Rattle.php_include_steps.proofs.Names.{knows, given, missing}
use Rattle.php_include_steps.proofs.begin.begin_constant.Goals as goal

pub returns-in-Some : goal.returns-in-Some
returns-in-Some c = λ stack t k.
    given c.args.name.now.text c.as_slice.result.now c.args.line (world_of t c.args.state.now) (rest t stack k) c.in_ok-value.field-0 c.in-Some.value c.as_slice.ensures
    (c.in_ok-value.ensures (world_of t c.args.state.now) (knows t c.args.state.now c.as_slice-path.result.now c.file_of.result.now c.as_slice-path.ensures c.file_of.ensures)) c.in-Some.is

pub returns-in-None : goal.returns-in-None
returns-in-None c = λ stack t k.
    missing c.args.name.now.text c.as_slice.result.now c.args.line (world_of t c.args.state.now) (rest t stack k) c.in_ok-value.field-0 c.as_slice.ensures
    (c.in_ok-value.ensures (world_of t c.args.state.now) (knows t c.args.state.now c.as_slice-path.result.now c.file_of.result.now c.as_slice-path.ensures c.file_of.ensures)) c.in-None.is
