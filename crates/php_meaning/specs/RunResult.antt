-- What the events of a run come to.
use Rattle.std.specs.Prelude.{ℕ, List, [], ◌∷◌, ◌++◌}
use Rattle.app_load.specs.Entries.{Entry}
use Rattle.php_meaning.specs.Events.{End, Done, Event, Tick, Enter, Out, Stop}

-- a header that a script set: its name and its value
pub record Header : Type 0 where
  pub name : List ℕ
  pub value : List ℕ

pub record RunResult : Type 0 where
  pub output : List ℕ
  pub headers : List Header
  pub status : ℕ
  pub entries : List Entry
  pub end : End

-- before the first event
abbrev pub opening : RunResult
opening = record { output = []; headers = []; status = 200; entries = []; end = Done }

-- the result with one event more
abbrev pub with_event : RunResult → Event → RunResult
with_event so_far Tick = so_far
with_event so_far (Enter entry) = record so_far { entries = so_far.entries ++ entry ∷ [] }
with_event so_far (Out bytes) = record so_far { output = so_far.output ++ bytes }
with_event so_far (Stop end) = record so_far { end = end }

-- the result with more events
abbrev pub result_from : RunResult → List Event → RunResult
result_from so_far [] = so_far
result_from so_far (event ∷ events) = result_from (with_event so_far event) events

-- the result of a whole run
abbrev pub result_of : List Event → RunResult
result_of = result_from opening
