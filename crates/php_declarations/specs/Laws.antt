-- What a declaration has to do with the meaning.
use Rattle.std.specs.Prelude.{◌≡◌, List}
use Rattle.php_world.specs.Naming.{Naming}
use Rattle.php_meaning.specs.Course.{Then, Does, Ticks}
use Rattle.php_rest.specs.Rest.{next_of, rest}
use Rattle.php_rest.specs.declared.now.Now.{Now}
use Rattle.php_rest.specs.declared.frame.Frame.{Frame}
use Rattle.php_state.specs.Fits.{Fits}
use Rattle.php_state.specs.Views.{world_of}
use Rattle.php_state.specs.declared.state.State.{State}

-- what comes next under any frames is what was to be done after a tick, for the numberings that fit the state behind it
abbrev pub DeclaresAfterTick : State → State → (Naming → Does) → Now → Type 0
DeclaresAfterTick old new does now =
    (t : Naming) (stack : List Frame) (k : Then) → Fits t new → Ticks (world_of t old) (next_of t now (world_of t new) (rest t stack k)) ≡ does t (world_of t old) (rest t stack k)
