use Rattle.std.proofs.Common.{ap, sym, ◌∙◌, drop}
use Rattle.php_meaning.specs.Calls.{passings}
use Rattle.php_meaning.specs.Expressions.{first_passing}
use Rattle.php_rest.specs.Views.{callee_named}
use Rattle.php_callees.proofs.handing.handed_over.Goals as goal

pub returns-in-List : goal.returns-in-List
returns-in-List c = λ t. c.of_list_call.ensures t ∙ ap (λ f. first_passing (drop c.args.number (passings (callee_named t f)))) (sym c.in-List.is)
