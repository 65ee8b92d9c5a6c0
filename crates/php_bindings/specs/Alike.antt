-- What a step has to do with the meaning where a default may end the run: the meaning ends it in the code of the function, and no
-- state stands for that world. A run tells the same of both.
use Rattle.std.specs.Prelude.{◌≡◌, ℕ, List}
use Rattle.php_world.specs.Naming.{Naming}
use Rattle.php_meaning.specs.Course.{Course, Then, Does, Ticks}
use Rattle.php_meaning.specs.Run.{Look, run}
use Rattle.php_rest.specs.Rest.{next_of, rest}
use Rattle.php_rest.specs.declared.now.Now.{Now}
use Rattle.php_rest.specs.declared.frame.Frame.{Frame}
use Rattle.php_state.specs.Views.{world_of}
use Rattle.php_state.specs.declared.state.State.{State}

-- courses whose runs have the same events, over all bodies and at every budget
abbrev pub Alike : Course → Course → Type 0
Alike c d = (look : Look) (budget : ℕ) → run look budget c ≡ run look budget d

-- what comes next under the frames after a step runs as what was to be done under those before it
abbrev pub RunsAlike : State → State → List Frame → List Frame → (Naming → Does) → Now → Type 0
RunsAlike old new before after does now =
    (t : Naming) (k : Then) → Alike (next_of t now (world_of t new) (rest t after k)) (does t (world_of t old) (rest t before k))

-- the same after a tick, which stands before the step
abbrev pub RunsAlikeAfterTick : State → State → List Frame → List Frame → (Naming → Does) → Now → Type 0
RunsAlikeAfterTick old new before after does now =
    (t : Naming) (k : Then) → Alike (Ticks (world_of t old) (next_of t now (world_of t new) (rest t after k))) (does t (world_of t old) (rest t before k))
