use Rattle.std.proofs.Common.{ap, ◌∙◌}
use Rattle.php_values.specs.Data.{data_of}
use Rattle.php_world.specs.View.{vars_of}
use Rattle.php_arguments.specs.Answers.{datas}
use Rattle.php_list_calls.specs.ListCalls.{list_answer}
use Rattle.php_meaning.specs.Apply.{first_or_null}
use Rattle.php_state.specs.Views.{world_of}
use Rattle.php_library_steps.proofs.Done.{changed_to, refused_to}
use Rattle.php_library_steps.proofs.changes.change_variable.Goals as goal

pub returns-in_ok-assign_first-in-Ok-clause-law : goal.returns-in_ok-assign_first-in-Ok-clause-law
returns-in_ok-assign_first-in-Ok-clause-law c = λ t k.
    changed_to (t.name c.args.number) (list_answer c.args.call (datas c.args.values.now)) (record { value = data_of c.in-Ok.value; after = datas c.list_call.new.args })
    (vars_of t c.take_array.new.store) (vars_of t c.assign_first.new.store) c.in_ok-taken.taken (world_of t c.args.state.now) k
    c.in-Ok.ensures (c.in_ok-taken.ensures t) (c.in_ok-assign_first-in-Ok.ensures t)

pub returns-in_ok-put_back-in-Err-clause-law : goal.returns-in_ok-put_back-in-Err-clause-law
returns-in_ok-put_back-in-Err-clause-law c = λ t k.
    let refused = c.in-Err.ensures c.in_ok-why-in-Err.ensures.fault_is in
    refused_to (t.name c.args.number) (list_answer c.args.call (datas c.args.values.now)) c.in-Err.fault c.in_ok-why-in-Err.why
    (vars_of t c.put_back.new.store) (world_of t c.args.state.now) k
    refused.0 c.in_ok-why-in-Err.ensures.law
    (c.in_ok-put_back-in-Err.ensures t (vars_of t c.args.state.now.store) (c.in_ok-taken.ensures t) (ap first_or_null refused.1 ∙ c.requires t))
