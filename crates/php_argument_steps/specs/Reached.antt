-- How far a call has come, and what a step of its arguments has to do with the meaning.
use Rattle.std.specs.Prelude.{◌≡◌, List, [], length, drop}
use Rattle.php_tree.specs.declared.expr.Expr.{Expr}
use Rattle.php_world.specs.Naming.{Naming}
use Rattle.php_meaning.specs.Course.{Then, Does, Ticks}
use Rattle.php_meaning.specs.Calls as calls
use Rattle.php_meaning.specs.Apply.{apply}
use Rattle.php_meaning.specs.Expressions.{arguments}
use Rattle.php_rest.specs.Named.{all_named}
use Rattle.php_rest.specs.Views.{callee_named, arguments_named}
use Rattle.php_rest.specs.Rest.{next_of, rest}
use Rattle.php_rest.specs.declared.frame.Frame.{Frame}
use Rattle.php_state.specs.Views.{world_of}
use Rattle.php_state.specs.declared.state.State.{State}
use Rattle.php_argument_steps.specs.declared.reached.Reached.{Reached}
use Rattle.php_argument_steps.specs.declared.reached.Reached.TheVariants.{Next, Ready}

-- something else comes next, or the callee is applied to its arguments
abbrev pub reached : Naming → Reached → Does
reached t (Next now) = next_of t now
reached t (Ready f args) = apply (callee_named t f) (arguments_named t args)

-- what the step came to, under the frames after it, is what was to be done under those before it
abbrev pub Reaches : State → State → List Frame → List Frame → (Naming → Does) → Reached → Type 0
Reaches old new before after does r =
    (t : Naming) (k : Then) → reached t r (world_of t new) (rest t after k) ≡ does t (world_of t old) (rest t before k)

-- the same after a tick, which stands before the step
abbrev pub ReachesAfterTick : State → State → List Frame → List Frame → (Naming → Does) → Reached → Type 0
ReachesAfterTick old new before after does r =
    (t : Naming) (k : Then) → Ticks (world_of t old) (reached t r (world_of t new) (rest t after k)) ≡ does t (world_of t old) (rest t before k)

-- the arguments that are left behind those that are there, and then the call
abbrev pub arguments_left : Naming → calls.Callee → List calls.Argument → List Expr → Does
arguments_left t c so_far es = arguments (all_named t es) (drop (length so_far) (calls.passings c)) so_far (apply c)

-- the arguments of a call, and then the call
abbrev pub called_with : Naming → List Expr → calls.Callee → Does
called_with t es c = arguments (all_named t es) (calls.passings c) [] (apply c)
