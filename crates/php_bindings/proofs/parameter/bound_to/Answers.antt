use Rattle.std.proofs.Common.{◌+◌, ◌++◌, ◌∷◌, [], drop, sym}
use Rattle.php_tree.specs.Renamed.{renamed_parameter}
use Rattle.php_tree.specs.StatementOf.{parameter_of}
use Rattle.php_meaning.specs.Calls as calls
use Rattle.php_rest.specs.Views.{arguments_named, function_named}
use Rattle.php_state.specs.Views.{world_of}
use Rattle.php_bindings.specs.Bounds.{gone_on_with}
use Rattle.php_bindings.proofs.Alike.{then_alike, alike_then}
use Rattle.php_bindings.proofs.Taking.{no_arguments}
use Rattle.php_bindings.proofs.parameter.bound_to.Goals as goal

pub returns-in_ok-bound-in-empty : goal.returns-in_ok-bound-in-empty
returns-in_ok-bound-in-empty c = λ t n ps so_far k.
    let none = no_arguments c.args.args.now c.in-empty.len_below in
    then_alike (λ i. gone_on_with t c.in_ok-bound-in-empty.bound (λ b. calls.bind (function_named t c.args.function) (n + 1) ps (drop 1 (arguments_named t (none i))) (so_far ++ b ∷ [])) (world_of t c.args.state.now) k)
    (alike_then (c.in_ok-bound-in-empty.ensures t n ps so_far k)
    (λ i. calls.bind (function_named t c.args.function) n (renamed_parameter t.name (parameter_of c.args.param.now) ∷ ps) (arguments_named t (sym none i)) so_far (world_of t c.args.state.now) k))
