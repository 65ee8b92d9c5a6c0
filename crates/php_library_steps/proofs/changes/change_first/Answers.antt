use Rattle.std.proofs.Common.{ap, sym, ◌∙◌}
use Rattle.php_world.specs.View.{vars_of}
use Rattle.php_arguments.specs.Answers.{datas}
use Rattle.php_list_calls.specs.ListCalls.{list_answer}
use Rattle.php_meaning.specs.Refusals.{answered, call_refused}
use Rattle.php_meaning.specs.Apply.{first_or_null, changed, not_counted}
use Rattle.php_state.specs.Views.{world_of}
use Rattle.php_library_steps.proofs.Done.{first_value, named_first, none_named}
use Rattle.php_library_steps.proofs.changes.change_first.Goals as goal

pub change_variable-requires : goal.change_variable-requires
change_variable-requires c = λ t.
    ap (λ vs. first_or_null (datas vs)) c.as_mut_slice.ensures.value ∙ ap first_or_null (c.in_ok-values.ensures t)
    ∙ first_value t c.args.args.now c.in-Some.number (vars_of t c.args.state.now.store) (sym c.first_name.ensures ∙ c.in-Some.is)

pub returns-in-Some-clause-law : goal.returns-in-Some-clause-law
returns-in-Some-clause-law c = λ t k.
    c.in_ok-now-in-Some.ensures.law t k
    ∙ ap (λ ds. answered call_refused (changed (t.name c.in-Some.number)) (list_answer c.args.call ds) (world_of t c.args.state.now) k) (ap datas c.as_mut_slice.ensures.value ∙ c.in_ok-values.ensures t)
    ∙ named_first t (list_answer c.args.call) c.args.args.now c.in-Some.number (world_of t c.args.state.now) k (sym c.first_name.ensures ∙ c.in-Some.is)

pub returns-clause-law : goal.returns-clause-law
returns-clause-law c = λ t k.
    ap (λ does. does (world_of t c.args.state.now) k) (sym c.in_ok-why-in-None.ensures)
    ∙ ap (λ ds. call_refused (not_counted (list_answer c.args.call ds)) (world_of t c.args.state.now) k) (ap datas c.as_mut_slice-in-None.ensures.value ∙ c.in_ok-values.ensures t)
    ∙ none_named t (list_answer c.args.call) c.args.args.now (world_of t c.args.state.now) k (sym c.first_name.ensures ∙ c.in-None.is)
