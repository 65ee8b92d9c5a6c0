-- What a step of the machine has to do with the meaning: a run from what comes next after it goes as the run goes from what was to
-- be done before it, for every numbering that fits the state after the step, whatever stands at the entries, and for all
-- ticks that are left.
use Rattle.std.specs.Prelude.{◌≡◌, ℕ, List, map}
use Rattle.std.specs.declared.option.Option.{Option}
use Rattle.std.specs.declared.option.Option.TheVariants.{Some, None}
use Rattle.php_world.specs.Naming.{Naming}
use Rattle.php_meaning.specs.Course.{Course, Ticks, Then, Does}
use Rattle.php_meaning.specs.Run.{Look, run}
use Rattle.php_meaning.specs.Statements.{Hoisted, hoisted, refused}
use Rattle.php_meaning.specs.World.{World}
use Rattle.php_tables.specs.Functions.{functions_of}
use Rattle.php_tables.specs.declared.functions.Functions.{Functions}
use Rattle.php_rest.specs.Rest.{next_of, rest}
use Rattle.php_rest.specs.Views.{function_named}
use Rattle.php_rest.specs.declared.now.Now.{Now}
use Rattle.php_rest.specs.declared.frame.Frame.{Frame}
use Rattle.php_state.specs.Fits.{Fits}
use Rattle.php_state.specs.Views.{world_of}
use Rattle.php_state.specs.declared.state.State.{State}
use Rattle.php_stepping.specs.declared.stepped.Stepped.{Stepped}
use Rattle.php_stepping.specs.declared.stepped.Stepped.TheVariants.{Quiet, Ticked}

-- two courses have the same events
abbrev pub RunAlike : Course → Course → Type 0
RunAlike c d = (look : Look) (left : ℕ) → run look left c ≡ run look left d

-- a step without a tick
abbrev pub Goes : State → State → List Frame → List Frame → (Naming → Does) → Now → Type 0
Goes old new before after does now =
    (t : Naming) → Fits t new → (k : Then) → RunAlike (next_of t now (world_of t new) (rest t after k)) (does t (world_of t old) (rest t before k))

-- a step behind a tick
abbrev pub GoesAfterTick : State → State → List Frame → List Frame → (Naming → Does) → Now → Type 0
GoesAfterTick old new before after does now =
    (t : Naming) → Fits t new → (k : Then) → RunAlike (Ticks (world_of t old) (next_of t now (world_of t new) (rest t after k))) (does t (world_of t old) (rest t before k))

abbrev pub GoesBy : State → State → List Frame → List Frame → (Naming → Does) → Stepped → Type 0
GoesBy old new before after does (Quiet now) = Goes old new before after does now
GoesBy old new before after does (Ticked now) = GoesAfterTick old new before after does now

-- the world with functions that were declared
abbrev pub with_functions : Naming → Functions → World → World
with_functions t fs w = record w { functions = map (function_named t) (functions_of fs) }

-- what a file's declarations leave, or the line of the first one that is refused
abbrev pub hoisted_or : Option ℕ → World → Hoisted
hoisted_or None w = hoisted w
hoisted_or (Some line) w = refused line
