-- What a call of the library has to do with the meaning: it leaves the frames as they are.
use Rattle.std.specs.Prelude.{◌≡◌, Bool, true, false}
use Rattle.php_world.specs.Naming.{Naming}
use Rattle.php_meaning.specs.Course.{Then, Does}
use Rattle.php_rest.specs.Rest.{next_of}
use Rattle.php_rest.specs.declared.now.Now.{Now}
use Rattle.php_rest.specs.declared.call_frame.Callee.{Callee}
use Rattle.php_rest.specs.declared.call_frame.Callee.TheVariants.{Program, Text, List, System}
use Rattle.php_state.specs.Views.{world_of}
use Rattle.php_state.specs.declared.state.State.{State}

-- what comes next after the step is what was to be done before it, whatever waits
abbrev pub RunsAlone : State → State → (Naming → Does) → Now → Type 0
RunsAlone old new does now = (t : Naming) (k : Then) → next_of t now (world_of t new) k ≡ does t (world_of t old) k

-- a call of the library, and no function of the program
abbrev pub is_library : Callee → Bool
is_library (Program f) = false
is_library (Text call) = true
is_library (List call) = true
is_library (System call) = true
