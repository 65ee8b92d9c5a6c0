-- A run that is under way: what it has put out, and the ticks that it has left.
use Rattle.std.specs.Prelude.{ℕ, List, [], ◌∷◌, Bool, true, false}
use Rattle.php_frames.specs.Events.{File, Done, Budget}
use Rattle.php_frames.specs.Course.{Course}
use Rattle.php_frames.specs.Run.{run}
use Rattle.php_frames.specs.RunResult.{RunResult, result_from}
use Rattle.php_frames.specs.declared.page_run.PageRun.{PageRun}

-- the result of a script that has put out these bytes and has entered no more than itself
abbrev pub script_result : List ℕ → List ℕ → RunResult
script_result path output = record { output = output; headers = []; status = 200; entries = File path ∷ []; end = Done }

-- what a run that is under way comes to where this course follows; nothing follows one whose budget is spent
abbrev pub resumed_at : List ℕ → List ℕ → ℕ → Bool → Course → RunResult
resumed_at path output left true course = record (script_result path output) { end = Budget }
resumed_at path output left false course = result_from (script_result path output) (run left course)

abbrev pub resumed : List ℕ → PageRun → Course → RunResult
resumed path page course = resumed_at path page.output.items page.left page.spent course

-- what a run has come to where nothing follows
abbrev pub closed_at : List ℕ → List ℕ → Bool → RunResult
closed_at path output true = record (script_result path output) { end = Budget }
closed_at path output false = script_result path output

abbrev pub closed : List ℕ → PageRun → RunResult
closed path page = closed_at path page.output.items page.spent
