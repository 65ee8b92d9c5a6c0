-- What a run that is under way comes to.
use Rattle.std.specs.Prelude.{◌≡◌, ℕ, List, [], map}
use Rattle.std.specs.declared.option.Option.TheVariants.{Some}
use Rattle.app_load.specs.Entries.{Entry, file, function}
use Rattle.app_load.specs.Files.{Tree}
use Rattle.app_load.specs.Parts.{body}
use Rattle.php_meaning.specs.declared.fatal.FatalName.TheVariants as name
use Rattle.php_meaning.specs.Events as events
use Rattle.php_meaning.specs.Events.{End, Done, Fatal}
use Rattle.php_meaning.specs.World.{World}
use Rattle.php_meaning.specs.Course.{Course, Enters, Then}
use Rattle.php_meaning.specs.Statements.{statements, file_statements, Hoisted, hoisted, refused, hoist}
use Rattle.php_meaning.specs.Run.{Look, run}
use Rattle.php_meaning.specs.RunResult.{RunResult, result_from}
use Rattle.php_rest.specs.Views.{entry_of}
use Rattle.php_rest.specs.declared.owner.Owner.{Owner}
use Rattle.php_tally.specs.declared.run.End as code
use Rattle.php_tally.specs.declared.run.End.TheVariants as c
use Rattle.php_tally.specs.declared.run.Run.{Run}
use Rattle.php_tally.specs.declared.tally.Tally.{Tally}

abbrev pub end_of : code.End → End
end_of c.Done = Done
end_of (c.Removed owner) = events.Removed (entry_of owner)
end_of c.Budget = events.Budget
end_of (c.Fatal why path line) = Fatal why path.now line

-- what came of a run that put these bytes out and entered these files and functions
abbrev pub result_with : List ℕ → List Owner → End → RunResult
result_with output entries end = record { output = output; headers = []; status = 200; entries = map entry_of entries; end = end }

-- what a run came to
abbrev pub result_in : Run → RunResult
result_in r = result_with r.output.items r.entries.items (end_of r.end)

-- what a run that ends now comes to
abbrev pub closed : Tally → End → RunResult
closed y end = result_with y.output.items y.entries.items end

-- what a run comes to from a result on, with so many ticks left
abbrev pub comes : Look → RunResult → ℕ → Course → RunResult
comes look so_far left c = result_from so_far (run look left c)

-- a file goes on behind its declarations, or ends at the first one that is refused
abbrev pub file_comes : Look → RunResult → ℕ → List ℕ → Tree → Hoisted → Then → RunResult
file_comes look so_far left path ss (hoisted v) k = comes look so_far left (file_statements ss v k)
file_comes look so_far left path ss (refused line) k = record so_far { end = Fatal name.Redeclared path line }

-- what a run comes to whose next statements are those at an entry
abbrev pub entry_comes : Look → RunResult → ℕ → Entry → Tree → World → Then → RunResult
entry_comes look so_far left (file path) ss w k = file_comes look so_far left path ss (hoist path ss w) k
entry_comes look so_far left (function path name) ss w k = comes look so_far left (statements ss w k)

-- what a run comes to once its course that is left is added
abbrev pub comes_to : Look → Tally → Course → RunResult
comes_to look y c = comes look (closed y Done) y.left c

-- an entry was noted: what was to enter it goes on with the statements there
abbrev pub EntersAs : Look → Tally → Tally → Entry → Type 0
EntersAs look old new entry = (ss : Tree) (w : World) (k : Then) → look entry ≡ Some (body ss) → comes_to look old (Enters entry w k) ≡ entry_comes look (closed new Done) new.left entry ss w k
