-- What a run does that can be seen from outside.
use Rattle.std.specs.Prelude.{ℕ, List}

-- a file by its path, or a function of a file by its name in lower case: what is recorded, kept and removed
pub data Entry : Type 0 where
  File : (path : List ℕ) → Entry
  Function : (path name : List ℕ) → Entry

-- how a run ends
pub data End : Type 0 where
  -- the script came to its end
  Done : End
  -- a file or function that was taken out of the copy was to be entered
  Removed : (entry : Entry) → End
  -- one tick more than the budget was wanted
  Budget : End

pub data Event : Type 0 where
  -- one step of the run's budget
  Tick : Event
  -- a file or function begins
  Enter : (entry : Entry) → Event
  -- bytes are put out
  Out : (bytes : List ℕ) → Event
  -- the run ends; the last event of each run
  Stop : (end : End) → Event
