use Rattle.std.proofs.Common.{refl, ◌∙◌}
use Rattle.php_list_calls.specs.ListCalls.{list_answer, changes_first}
use Rattle.php_meaning.specs.Library.{value_alone}
use Rattle.php_rest.specs.Views.{arguments_named}
use Rattle.php_state.specs.Views.{world_of}
use Rattle.php_library_steps.proofs.Handed.{named_changes, other_reads}
use Rattle.php_library_steps.proofs.changes.apply_list.Goals as goal

pub returns-in_ok-now-in-ByName-clause-law : goal.returns-in_ok-now-in-ByName-clause-law
returns-in_ok-now-in-ByName-clause-law c = λ t k.
    c.in_ok-now-in-ByName.ensures.law t k
    ∙ named_changes c.handed_over.result (changes_first c.args.call) (list_answer c.args.call) (λ ds. value_alone (list_answer c.args.call ds)) (arguments_named t c.args.args.now) (world_of t c.args.state.now) k
    (c.handed_over.ensures t) c.in-ByName.is

pub returns-in_ok-now-in_default : goal.returns-in_ok-now-in_default
returns-in_ok-now-in_default c = record {
  law = λ t k.
      c.in_ok-now-in_default.ensures t k
      ∙ other_reads c.handed_over.result (changes_first c.args.call) (list_answer c.args.call) (λ ds. value_alone (list_answer c.args.call ds)) (arguments_named t c.args.args.now) (world_of t c.args.state.now) k
      (c.handed_over.ensures t) c.in_default.not-ByName;
  keeps = (refl, λ n key is. is);
}
