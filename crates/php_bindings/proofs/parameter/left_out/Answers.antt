use Rattle.std.proofs.Common.{◌+◌, ◌++◌, ◌∷◌, [], sym}
use Rattle.php_tree.specs.Renamed.{renamed_parameter}
use Rattle.php_tree.specs.StatementOf.{parameter_of}
use Rattle.php_values.specs.Data.{Data}
use Rattle.php_meaning.specs.Course.{Does}
use Rattle.php_meaning.specs.Hints as hints
use Rattle.php_meaning.specs.Calls as calls
use Rattle.php_rest.specs.Views.{function_named}
use Rattle.php_fixed.specs.Evaluated.{gone_on}
use Rattle.php_state.specs.Views.{world_of}
use Rattle.php_bindings.proofs.Alike.{then_alike}
use Rattle.php_bindings.proofs.Taking.{left_taken}
use Rattle.php_bindings.proofs.parameter.left_out.Goals as goal

pub returns-in-Gives-2 : goal.returns-in-Gives-2
returns-in-Gives-2 c = λ t n ps so_far k.
    let f = function_named t c.args.function in
    let p = renamed_parameter t.name (parameter_of c.args.param.now) in
    let go : Data → Does = λ e. calls.bind f (n + 1) ps [] (so_far ++ calls.has_value p.variable e ∷ []) in
    then_alike (λ i. gone_on (sym c.in-Gives-2.is i) go (world_of t c.args.state.now) k)
    (left_taken _ _ _ _ f n p go _ k c.in-Gives.is (c.in_ok-value.ensures t (λ d. calls.taken_or f n go (hints.taken p d)) k) (c.in_ok-value-in-Gives.ensures t f n go))

pub returns-in-Fails-2 : goal.returns-in-Fails-2
returns-in-Fails-2 c = λ t n ps so_far k.
    let f = function_named t c.args.function in
    let p = renamed_parameter t.name (parameter_of c.args.param.now) in
    let go : Data → Does = λ e. calls.bind f (n + 1) ps [] (so_far ++ calls.has_value p.variable e ∷ []) in
    then_alike (λ i. gone_on (sym c.in-Fails-2.is i) go (world_of t c.args.state.now) k)
    (left_taken _ _ _ _ f n p go _ k c.in-Gives.is (c.in_ok-value.ensures t (λ d. calls.taken_or f n go (hints.taken p d)) k) (c.in_ok-value-in-Gives.ensures t f n go))

pub returns-in-Fails : goal.returns-in-Fails
returns-in-Fails c = λ t n ps so_far k.
    let f = function_named t c.args.function in
    let p = renamed_parameter t.name (parameter_of c.args.param.now) in
    let go : Data → Does = λ d. calls.taken_or f n (λ e. calls.bind f (n + 1) ps [] (so_far ++ calls.has_value p.variable e ∷ [])) (hints.taken p d) in
    then_alike (λ i. gone_on (sym c.in-Fails.is i) go (world_of t c.args.state.now) k) (c.in_ok-value.ensures t go k)
