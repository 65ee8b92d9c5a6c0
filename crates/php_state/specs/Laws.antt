-- What a step that changes the state has to do with the meaning.
use Rattle.std.specs.Prelude.{◌≡◌, List}
use Rattle.php_world.specs.Naming.{Naming}
use Rattle.php_meaning.specs.Course.{Then, Does, Ticks}
use Rattle.php_rest.specs.Rest.{next_of, rest}
use Rattle.php_rest.specs.declared.now.Now.{Now}
use Rattle.php_rest.specs.declared.frame.Frame.{Frame}
use Rattle.php_state.specs.Views.{world_of}
use Rattle.php_state.specs.declared.state.State.{State}

-- what comes next under the frames after a step is what was to be done under those before it
abbrev pub Runs : State → State → List Frame → List Frame → (Naming → Does) → Now → Type 0
Runs old new before after does now =
    (t : Naming) (k : Then) → next_of t now (world_of t new) (rest t after k) ≡ does t (world_of t old) (rest t before k)

-- the same after a tick, which stands before the step
abbrev pub RunsAfterTick : State → State → List Frame → List Frame → (Naming → Does) → Now → Type 0
RunsAfterTick old new before after does now =
    (t : Naming) (k : Then) → Ticks (world_of t old) (next_of t now (world_of t new) (rest t after k)) ≡ does t (world_of t old) (rest t before k)
