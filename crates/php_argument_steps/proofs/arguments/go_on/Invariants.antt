use Rattle.std.proofs.Common.{◌≡◌, length}
use Rattle.php_world.specs.Naming.{Naming}
use Rattle.php_meaning.specs.Course.{Then}
use Rattle.php_rest.specs.Rest.{rest}
use Rattle.php_rest.specs.Tails.{left_in}
use Rattle.php_rest.specs.Views.{arguments_named, callee_named}
use Rattle.php_state.specs.Fits.{Keeps}
use Rattle.php_state.specs.Views.{world_of}
use Rattle.php_argument_steps.specs.Reached.{arguments_left}
use Rattle.php_argument_steps.proofs.arguments.go_on.Given as goal

abbrev pub invariant-all : goal.invariant-all
invariant-all l =
    ((t : Naming) (k : Then) → arguments_left t (callee_named t l.callee) (arguments_named t l.so_far) (left_in l.left) (world_of t l.state) (rest t l.stack k)
    ≡ arguments_left t (callee_named t l.fn.callee) (arguments_named t l.fn.so_far) (left_in l.fn.more) (world_of t l.fn.state) (rest t l.fn.stack k))
    × Keeps l.fn.state l.state

abbrev pub decreases-all : goal.decreases-all
decreases-all l = length (left_in l.left)
