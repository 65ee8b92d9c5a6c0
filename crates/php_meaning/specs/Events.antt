-- What a run does that can be seen from outside.
use Rattle.std.specs.Prelude.{ℕ, List}
use Rattle.app_load.specs.Entries.{Entry}
use Rattle.php_meaning.specs.declared.fatal.FatalName.{FatalName}

-- how a run ends
pub data End : Type 0 where
  -- the script came to its end, or `exit`
  Done : End
  -- a file or function that was taken out of the copy was to be entered
  Removed : (entry : Entry) → End
  -- one tick more than the budget was wanted
  Budget : End
  -- the run could not go on, at a line of a file
  Fatal : (name : FatalName) (file : List ℕ) (line : ℕ) → End

pub data Event : Type 0 where
  -- one step of the run's budget
  Tick : Event
  -- a file or function begins
  Enter : (entry : Entry) → Event
  -- bytes are put out
  Out : (bytes : List ℕ) → Event
  -- the run ends; the last event of each run
  Stop : (end : End) → Event
