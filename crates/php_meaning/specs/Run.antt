-- The events of a run: ticks are counted, and files and bodies are looked up by their entries.
use Rattle.std.specs.Prelude.{ℕ, zero, suc, List, [], ◌∷◌, ◌++◌}
use Rattle.std.specs.declared.option.Option.{Option}
use Rattle.std.specs.declared.option.Option.TheVariants.{Some, None}
use Rattle.app_load.specs.Entries.{Entry, file, function}
use Rattle.app_load.specs.Files.{Tree}
use Rattle.app_load.specs.Parts.{Part, body, stub}
use Rattle.php_meaning.specs.declared.fatal.FatalName.TheVariants as name
use Rattle.php_meaning.specs.Events.{Done, Removed, Budget, Fatal, Event, Tick, Enter, Out, Stop}
use Rattle.php_meaning.specs.World.{World}
use Rattle.php_meaning.specs.Course.{Course, Stops, Prints, Ticks, Enters, Turns, Signal, Normal, Then}
use Rattle.php_meaning.specs.Statements.{statements, turn, file_statements, Hoisted, hoisted, refused, hoist}

-- what stands at an entry, if anything does
abbrev pub Look : Type 0
Look = Entry → Option Part

-- What a body does, up to its first tick. Where it does nothing, what follows the entry is next.
-- `tick` says what a tick makes of the events after it, and `more` what these are.
module _ (tick : World → List Event → List Event) (more : Course → List Event) where
  abbrev pub begun : Course → List Event → List Event
  begun (Ticks w rest) otherwise = tick w (more rest)
  begun c otherwise = otherwise

  -- a file's declarations come first
  abbrev pub begun_file : List ℕ → Tree → Hoisted → Then → (World → List Event) → List Event
  begun_file path ss (hoisted v) k after = begun (file_statements ss v k) (after v)
  begun_file path ss (refused line) k after = Stop (Fatal name.Redeclared path line) ∷ []

  -- the statements at an entry, where `after` is what follows them when they do nothing
  abbrev pub opened : Entry → Tree → World → Then → (World → List Event) → List Event
  opened (file path) ss w k after = begun_file path ss (hoist path ss w) k after
  opened (function path name) ss w k after = begun (statements ss w k) (after w)

  -- an entry, or the end of the run where its file or body was removed
  abbrev pub enter : Option Part → Entry → World → Then → (World → List Event) → List Event
  enter (Some (body ss)) entry w k after = Enter entry ∷ opened entry ss w k after
  enter (Some stub) entry w k after = Stop (Removed entry) ∷ []
  enter None entry w k after = Stop (Removed entry) ∷ []

  -- the events of a course
  abbrev pub follow : Look → Course → List Event
  follow look (Stops end w) = Stop end ∷ []
  follow look (Prints bytes rest) = Out bytes ∷ follow look rest
  follow look (Ticks w rest) = tick w (more rest)
  follow look (Enters entry w k) = enter (look entry) entry w k (λ v. follow look (k Normal v))
  follow look (Turns loop w k) = tick w (more (turn loop w k))

-- the events of a course with so many ticks left
abbrev pub run : Look → ℕ → Course → List Event
run look zero = follow (λ w later. Stop Budget ∷ []) (λ c. []) look
run look (suc left) = follow (λ w later. Tick ∷ later) (run look left) look
