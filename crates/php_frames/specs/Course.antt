-- What a run does from some point on, before ticks are counted.
use Rattle.std.specs.Prelude.{ℕ, List, [], ◌∷◌, ◌++◌}
use Rattle.php_frames.specs.Events.{End}

-- what a run has at a moment: the paths of the files that were entered, oldest first
pub record World : Type 0 where
  pub entered : List (List ℕ)

pub data Course : Type 0 where
  -- the run ends
  Stops : (end : End) → Course
  -- bytes are put out, and what follows
  Prints : (bytes : List ℕ) (rest : Course) → Course
  -- a tick, and what follows
  Ticks : (rest : Course) → Course

-- what follows a statement
abbrev pub Then : Type 0
Then = World → Course

-- the world after a file was entered
abbrev pub with_entered : List ℕ → World → World
with_entered path w = record { entered = w.entered ++ path ∷ [] }
