-- The whole run of a script.
use Rattle.std.specs.Prelude.{ℕ, List, [], ◌∷◌, codes}
use Rattle.std.specs.declared.option.Option.TheVariants.{None}
pub use Rattle.app_load.specs.CopyParts.{paths_of}
use Rattle.app_load.specs.Entries.{Entry, file, function}
use Rattle.app_load.specs.Parts.{Parts, part_at}
use Rattle.php_values.specs.Data.{Data, array, ArrayData}
use Rattle.php_world.specs.Variables.{Variables, no_variables}
use Rattle.php_meaning.specs.declared.fatal.FatalName.TheVariants as name
use Rattle.php_meaning.specs.Events.{Done, Fatal, Event}
use Rattle.php_meaning.specs.World.{World}
use Rattle.php_meaning.specs.Course.{Course, Stops, Enters, Signal, Gives, Normal, Returned, Thrown, Breaks, Continues, Then}
use Rattle.php_meaning.specs.Calls.{assigned}
use Rattle.php_meaning.specs.Run.{Look, run}

-- what a run is given
pub record Input : Type 0 where
  pub script : List ℕ
  pub get : ArrayData
  pub post : ArrayData
  pub cookie : ArrayData
  pub request : ArrayData
  pub server : ArrayData

abbrev pub opening_variables : Input → Variables
opening_variables i =
    assigned (codes "_SERVER") (array i.server) (assigned (codes "_REQUEST") (array i.request) (assigned (codes "_COOKIE") (array i.cookie)
    (assigned (codes "_POST") (array i.post) (assigned (codes "_GET") (array i.get) no_variables))))

-- the world in which the script begins
abbrev pub opening_world : Input → List (List ℕ) → World
opening_world i files = record {
  vars = opening_variables i;
  context = record { owner = file i.script; gives = None; depth = 0 };
  at = record { file = i.script; line = 1 };
  functions = [];
  constants = [];
  entered = i.script ∷ [];
  printed = 0;
  script = i.script;
  files = files;
}

-- the end of the script
abbrev pub finish : Then
finish (Gives d) w = Stops Done w
finish Normal w = Stops Done w
finish (Returned d) w = Stops Done w
finish (Thrown n) w = Stops (Fatal name.Uncaught w.at.file w.at.line) w
finish (Breaks n) w = Stops Done w
finish (Continues n) w = Stops Done w

-- all events of a script over what stands at each entry, where these are the paths of the files
abbrev pub trace_by : Look → List (List ℕ) → Input → ℕ → List Event
trace_by look files i budget = run look budget (Enters (file i.script) (opening_world i files) finish)

-- all events of a script: of an application, or of a copy of it
abbrev pub trace : Parts → Input → ℕ → List Event
trace parts = trace_by (part_at parts) (paths_of parts)
