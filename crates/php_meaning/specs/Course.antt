-- What a node of the program does, up to the next entry of a file or function or the next turn of a loop. Ticks are not
-- counted yet, and no body is looked up.
use Rattle.std.specs.Prelude.{ℕ, List}
use Rattle.php_tree.specs.Expressions.{Expression, Expressions}
use Rattle.php_tree.specs.Statements.{Statements}
use Rattle.php_values.specs.Data.{Data}
use Rattle.app_load.specs.Entries.{Entry}
use Rattle.php_meaning.specs.Events.{End}
use Rattle.php_meaning.specs.World.{World, Name}

-- how a node ends
pub data Signal : Type 0 where
  -- an expression has a value
  Gives : Data → Signal
  -- a statement is done
  Normal : Signal
  Returned : Data → Signal
  -- an object was thrown, by its number
  Thrown : ℕ → Signal
  -- so many loops and switches around the innermost one are left too
  Breaks : ℕ → Signal
  Continues : ℕ → Signal

-- a loop whose turns cost a tick each: its parts and its line
pub data Loop : Type 0 where
  While : Expression Name → Statements Name → ℕ → Loop
  Do : Statements Name → Expression Name → ℕ → Loop
  -- its tests, its steps and its body
  For : Expressions Name → Expressions Name → Statements Name → ℕ → Loop

pub data Course : Type 0 where
  -- the run ends
  Stops : (end : End) (w : World) → Course
  -- bytes are put out, and what follows
  Prints : (bytes : List ℕ) (rest : Course) → Course
  -- a tick, and what follows
  Ticks : (w : World) (rest : Course) → Course
  -- the entry of a file or function, in the world in which its statements begin, and what follows their end
  Enters : (entry : Entry) (w : World) (k : Signal → World → Course) → Course
  -- a tick, a turn of a loop, and what follows the loop
  Turns : (loop : Loop) (w : World) (k : Signal → World → Course) → Course

-- what follows a node
abbrev pub Then : Type 0
Then = Signal → World → Course

-- what a node does, with what follows it
abbrev pub Does : Type 0
Does = World → Then → Course

-- hands on a signal
abbrev pub hand : Signal → Does
hand s w k = k s w

abbrev pub give : Data → Does
give d w k = k (Gives d) w

-- goes on with a value, and hands all else to what follows
abbrev pub on_value : (Data → Does) → Then → Then
on_value go k (Gives d) w = go d w k
on_value go k Normal w = k Normal w
on_value go k (Returned d) w = k (Returned d) w
on_value go k (Thrown n) w = k (Thrown n) w
on_value go k (Breaks n) w = k (Breaks n) w
on_value go k (Continues n) w = k (Continues n) w

-- goes on after a normal end, and hands all else to what follows
abbrev pub then_do : Does → Then → Then
then_do go k (Gives d) w = k (Gives d) w
then_do go k Normal w = go w k
then_do go k (Returned d) w = k (Returned d) w
then_do go k (Thrown n) w = k (Thrown n) w
then_do go k (Breaks n) w = k (Breaks n) w
then_do go k (Continues n) w = k (Continues n) w
