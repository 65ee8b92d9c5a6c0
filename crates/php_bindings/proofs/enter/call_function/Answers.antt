use Rattle.std.proofs.Common.{sym, ◌∙◌}
use Rattle.php_meaning.specs.Apply.{apply}
use Rattle.php_meaning.specs.Calls as calls
use Rattle.php_rest.specs.Rest.{rest}
use Rattle.php_rest.specs.Views.{arguments_named, function_named}
use Rattle.php_state.specs.Views.{world_of}
use Rattle.php_bindings.specs.Bounds.{entered_with}
use Rattle.php_bindings.proofs.Alike.{then_alike, alike_then}
use Rattle.php_bindings.proofs.enter.call_function.Goals as goal

pub returns-in-All-clause-law : goal.returns-in-All-clause-law
returns-in-All-clause-law c = λ t k.
    let f = function_named t c.args.function in
    then_alike (c.in_ok-now-in-All.ensures.law t k ∙ (λ i. entered_with t f (sym c.in-All.is i) (world_of t c.args.state.now) (rest t c.args.stack.now k)))
    (alike_then (c.in_ok-bounds.ensures t (rest t c.args.stack.now k)) (λ i. apply (calls.program f) (arguments_named t (c.as_slice.ensures i)) (world_of t c.args.state.now) (rest t c.args.stack.now k)))

pub returns-clause-law : goal.returns-clause-law
returns-clause-law c = λ t k.
    let f = function_named t c.args.function in
    then_alike (λ i. entered_with t f (sym c.in-Fails.is i) (world_of t c.args.state.now) (rest t c.args.stack.now k))
    (alike_then (c.in_ok-bounds.ensures t (rest t c.args.stack.now k)) (λ i. apply (calls.program f) (arguments_named t (c.as_slice.ensures i)) (world_of t c.args.state.now) (rest t c.args.stack.now k)))
