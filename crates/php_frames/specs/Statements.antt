-- The statements that are built so far, and what each does. The language adds its own beside them.
use Rattle.std.specs.Prelude.{ℕ, List, [], ◌∷◌}
use Rattle.php_frames.specs.Course.{World, Course, Prints, Ticks, Then}

pub data Statement : Type 0 where
  -- text outside of `<?php .. ?>`
  Inline : (bytes : List ℕ) → Statement
  -- `echo` of texts
  Echo : (texts : List (List ℕ)) → Statement
  -- `;`
  Empty : Statement

-- each text is put out before the next one is looked at
abbrev pub prints : List (List ℕ) → Course → Course
prints [] rest = rest
prints (text ∷ texts) rest = Prints text (prints texts rest)

-- a tick stands before each statement that is not empty
abbrev pub statement : Statement → World → Then → Course
statement (Inline bytes) w k = Ticks (Prints bytes (k w))
statement (Echo texts) w k = Ticks (prints texts (k w))
statement Empty w k = k w

-- statements in their order
abbrev pub block : List Statement → World → Then → Course
block [] w k = k w
block (first ∷ rest) w k = statement first w (λ v. block rest v k)
