use Rattle.std.proofs.Common.{ap, ◌∙◌}
use Rattle.php_values.specs.Data.{data_of}
use Rattle.php_arguments.specs.Answers.{datas}
use Rattle.php_text_calls.specs.TextCalls.{text_answer}
use Rattle.php_rest.specs.Views.{arguments_named}
use Rattle.php_state.specs.Views.{world_of}
use Rattle.php_library_steps.proofs.Done.{read_given, read_refused}
use Rattle.php_library_steps.proofs.apply.apply_text.Goals as goal

pub returns-in-Ok : goal.returns-in-Ok
returns-in-Ok c = λ t k.
    read_given (text_answer c.args.call) (arguments_named t c.args.args.now) (world_of t c.args.state.now) k (datas c.as_slice.result.now) (data_of c.in-Ok.value)
    (ap datas c.as_slice.ensures.value ∙ c.in_ok-values.ensures t) c.in-Ok.ensures

pub returns : goal.returns
returns c = λ t k.
    read_refused (text_answer c.args.call) (arguments_named t c.args.args.now) (world_of t c.args.state.now) k (datas c.as_slice.result.now) c.in-Err.fault c.in_ok-why-in-Err.why
    (ap datas c.as_slice.ensures.value ∙ c.in_ok-values.ensures t) (c.in-Err.ensures c.in_ok-why-in-Err.ensures.fault_is) c.in_ok-why-in-Err.ensures.law
