-- What the functions that read ensure.
use Rattle.std.specs.Prelude.{◌≡◌, ℕ, ◌+◌, ◌-◌, ◌<◌, ◌≤◌, true, false, List, [], ◌++◌, Option, None, Some, Bool, drop, length}
use Rattle.php_lexer.specs.Bytes.{Text}
use Rattle.php_lexer.specs.Marks.{Mark}
use Rattle.php_lexer.specs.Pieces.{piece_at}
use Rattle.php_lexer.specs.declared.front.Piece.TheVariants.{Close}
use Rattle.php_lexer.specs.Tokens.{ends_part, Goal, code, body, Outcome, read, fault, after, Reads}
use Rattle.php_lexer.specs.declared.kinds.Part.{Part}
use Rattle.php_lexer.specs.declared.fault.LexFault.{LexFault}
use Rattle.php_lexer.specs.declared.fault.LexFault.TheVariants.{At, Memory}
use Rattle.php_lexer.specs.declared.state.State.{State}
use Rattle.php_lexer.specs.declared.state.Cursor.{Cursor}
use Rattle.php_lexer.specs.declared.state.Around.{Around}
use Rattle.php_lexer.specs.declared.state.Quoted.{Quoted}
use Rattle.php_lexer.specs.declared.state.Next.{Next}
use Rattle.php_lexer.specs.declared.state.Next.TheVariants.{More, Done}
use Rattle.php_lexer.specs.declared.body.Body.{Body}

abbrev pub goal_of : State → Around → Goal
goal_of s a = code s.is_outside a.nest a.quote s.depth s.cursor.at

abbrev pub body_goal : Quoted → ℕ → List Part → Text → List Mark → Goal
body_goal quoted at parts bytes us = body quoted.is_double quoted.nest quoted.quote at parts bytes us

-- the error is want of memory, or the goal's fault
abbrev pub FaultAt : Text → Goal → LexFault → Type 0
FaultAt t g Memory = Unit {0}
FaultAt t g (At place k) = Reads t g (fault place k)

-- the goal's tokens were added, up to the place
pub record Adds (t : Text) (g : Goal) (old new : List Mark) (end : ℕ) : Type 0 where
  pub added : List Mark
  pub list : new ≡ old ++ added
  pub reads : Reads t g (read added end)

-- what is left after a step gives
abbrev pub Follows : Text → Around → Next → Outcome → Type 0
Follows t a (More s) o = Reads t (goal_of s a) o
Follows t a (Done c) o = o ≡ read [] c.at

-- the goal's first tokens were added, and what follows is the rest
pub record Leads (t : Text) (a : Around) (g : Goal) (old new : List Mark) (next : Next) : Type 0 where
  pub added : List Mark
  pub list : new ≡ old ++ added
  pub reads : (o : Outcome) → Follows t a next o → Reads t g (after added o)

-- the place is one of the same text, further on where there is more
abbrev pub GoesOn : State → Next → Type 0
GoesOn s (More m) = (m.cursor.text ≡ s.cursor.text) × (s.cursor.at < m.cursor.at)
GoesOn s (Done c) = (c.text ≡ s.cursor.text) × (s.cursor.at ≤ c.at)

-- the state so many bytes on
pub record IsPast (s : State) (x : Bool) (d k : ℕ) (m : State) : Type 0 where
  pub text : m.cursor.text ≡ s.cursor.text
  pub at : m.cursor.at ≡ s.cursor.at + k
  pub outside : m.is_outside ≡ x
  pub depth : m.depth ≡ d

-- after a closing brace
abbrev pub IsShut : State → Around → Next → Type 0
IsShut s a (More m) = (ends_part a.nest s.depth ≡ false) × IsPast s false (s.depth - 1) 1 m
IsShut s a (Done c) = (ends_part a.nest s.depth ≡ true) × (c.text ≡ s.cursor.text) × (c.at ≡ s.cursor.at + 1)

-- ---- a quoted text

-- where the rest of a body begins after a step; the closing quote stays
abbrev pub body_next : Cursor → Option Cursor → Cursor
body_next cursor None = cursor
body_next cursor (Some next) = next

-- a piece was read, its expression's tokens were added, and what follows is the rest
pub record BodyLeads (t : Text) (quoted : Quoted) (at end : ℕ) (was now : Body) (old new : List Mark) : Type 0 where
  pub added : List Mark
  pub list : new ≡ old ++ added
  pub reads : (us : List Mark) (o : Outcome) → Reads t (body_goal quoted end now.parts now.bytes.items (us ++ added)) o
      → Reads t (body_goal quoted at was.parts was.bytes.items us) o

-- nothing was read only at the closing quote
abbrev pub Closes : Cursor → Quoted → Option Cursor → Type 0
Closes c quoted None = (Close ≡ piece_at quoted.is_double (drop c.at c.text.now)) × (c.at < length c.text.now)
Closes c quoted (Some next) = Unit {0}

-- the place is one of the same text, further on where something was read
abbrev pub BodyGoesOn : Cursor → Option Cursor → Type 0
BodyGoesOn c None = Unit {0}
BodyGoesOn c (Some next) = (next.text ≡ c.text) × (c.at < next.at)
