-- The events of a run.
use Rattle.std.specs.Prelude.{ℕ, zero, suc, List, [], ◌∷◌}
use Rattle.php_frames.specs.Events.{File, Done, Removed, Budget, Event, Tick, Enter, Out, Stop}
use Rattle.php_frames.specs.Course.{Course, Stops, Prints, Ticks, Then, with_entered}
use Rattle.php_frames.specs.Statements.{Statement, block}

-- the events of a course, where `tick` says what a tick makes of what comes after it, and `more` what comes then
abbrev pub follow : (List Event → List Event) → (Course → List Event) → Course → List Event
follow tick more (Stops end) = Stop end ∷ []
follow tick more (Prints bytes rest) = Out bytes ∷ follow tick more rest
follow tick more (Ticks rest) = tick (more rest)

-- the events of a course with so many ticks left
abbrev pub run : ℕ → Course → List Event
run zero = follow (λ later. Stop Budget ∷ []) (λ course. [])
run (suc left) = follow (λ later. Tick ∷ later) (run left)

-- what stands at the path of a file: its statements, or the stub of a file that was taken out
pub data Part : Type 0 where
  Tree : (statements : List Statement) → Part
  Stub : Part

-- what follows the script
abbrev pub finish : Then
finish w = Stops Done

-- all events of entering a script, of an application or of a copy of it
abbrev pub trace : Part → List ℕ → ℕ → List Event
trace (Tree statements) path budget = Enter (File path) ∷ run budget (block statements (with_entered path (record { entered = [] })) finish)
trace Stub path budget = Stop (Removed (File path)) ∷ []
