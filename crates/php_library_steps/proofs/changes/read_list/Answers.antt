use Rattle.std.proofs.Common.{ap, ◌∙◌}
use Rattle.php_values.specs.Data.{data_of}
use Rattle.php_arguments.specs.Answers.{datas}
use Rattle.php_list_calls.specs.ListCalls.{list_answer}
use Rattle.php_meaning.specs.Library.{value_alone}
use Rattle.php_rest.specs.Views.{arguments_named}
use Rattle.php_state.specs.Views.{world_of}
use Rattle.php_library_steps.proofs.Done.{read_given, read_refused}
use Rattle.php_library_steps.proofs.changes.read_list.Goals as goal

pub returns-in-Ok : goal.returns-in-Ok
returns-in-Ok c = λ t k.
    read_given (λ ds. value_alone (list_answer c.args.call ds)) (arguments_named t c.args.args.now) (world_of t c.args.state.now) k (datas c.as_mut_slice.result.now) (data_of c.in-Ok.value)
    (ap datas c.as_mut_slice.ensures.value ∙ c.in_ok-values.ensures t) (ap value_alone c.in-Ok.ensures)

pub returns : goal.returns
returns c = λ t k.
    read_refused (λ ds. value_alone (list_answer c.args.call ds)) (arguments_named t c.args.args.now) (world_of t c.args.state.now) k (datas c.as_mut_slice.result.now) c.in-Err.fault c.in_ok-why-in-Err.why
    (ap datas c.as_mut_slice.ensures.value ∙ c.in_ok-values.ensures t) (ap value_alone (c.in-Err.ensures c.in_ok-why-in-Err.ensures.fault_is).0) c.in_ok-why-in-Err.ensures.law
