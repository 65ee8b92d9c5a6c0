use Rattle.std.proofs.Common.{◌≡◌}
use Rattle.php_world.specs.Naming.{Naming}
use Rattle.php_world.specs.View.{vars_of}
use Rattle.php_meaning.specs.Calls as calls
use Rattle.php_bindings.specs.Bounds.{bounds_named}
use Rattle.php_bindings.proofs.bound.bind_all.Given as goal

abbrev pub invariant-loop-bound : goal.invariant-loop-bound
invariant-loop-bound l = (t : Naming) → vars_of t l.store ≡ calls.bind_all (vars_of t l.fn.store) (bounds_named t l.yielded)
