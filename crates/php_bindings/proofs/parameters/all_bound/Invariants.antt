use Rattle.std.proofs.Common.{◌+◌, drop}
use Rattle.php_world.specs.Naming.{Naming}
use Rattle.php_meaning.specs.Course.{Then}
use Rattle.php_meaning.specs.Apply.{apply}
use Rattle.php_meaning.specs.Calls as calls
use Rattle.php_rest.specs.Views.{arguments_named, function_named}
use Rattle.php_state.specs.Views.{world_of}
use Rattle.php_bindings.specs.Alike.{Alike}
use Rattle.php_bindings.specs.Bounds.{params_named, bounds_named}
use Rattle.php_bindings.proofs.parameters.all_bound.Given as goal

abbrev pub invariant-loop-param : goal.invariant-loop-param
invariant-loop-param l =
    (t : Naming) (k : Then) → Alike (calls.bind (function_named t l.function) (l.param-index + 1) (params_named t (drop l.param-index l.params)) (arguments_named t l.args) (bounds_named t l.all.items) (world_of t l.state) k)
    (apply (calls.program (function_named t l.function)) (arguments_named t l.fn.args) (world_of t l.state) k)
