-- What a run has at a moment. It holds no source and no frames.
use Rattle.std.specs.Prelude.{ℕ, List, [], ◌∷◌, ◌++◌, Option, Some, None, Bool, true, false, if◌then◌else◌}
use Rattle.std.specs.Str.{bytes_eq}
use Rattle.php_tree.specs.declared.decl.Hint.{Hint}
use Rattle.php_tree.specs.Statements.{Head}
use Rattle.php_values.specs.Data.{Data}
use Rattle.php_world.specs.Variables.{Variables, left}
pub use Rattle.app_load.specs.CopyParts.{path_of}
use Rattle.app_load.specs.Entries.{Entry, file, function}

-- the name of a variable, without its `$`
abbrev pub Name : Type 0
Name = List ℕ

-- where a run stands: the file and line of the innermost statement that runs
pub record Position : Type 0 where
  pub file : List ℕ
  pub line : ℕ

-- a function that was declared: its name in lower case, what it says before its body, and the body's entry
pub record Declared : Type 0 where
  pub name : List ℕ
  pub head : Head Name
  pub entry : Entry

-- a constant and its value
pub record Constant : Type 0 where
  pub name : List ℕ
  pub value : Data

-- what a call or an include changes while it runs, and its end restores
pub record Context : Type 0 where
  -- the file or function whose code runs
  pub owner : Entry
  -- what a `return` has to give
  pub gives : Option Hint
  -- how many calls and includes enclose what runs
  pub depth : ℕ

pub record World : Type 0 where
  pub vars : Variables
  pub context : Context
  pub at : Position
  -- in the order in which they were declared
  pub functions : List Declared
  pub constants : List Constant
  -- the paths of the files that were entered, oldest first
  pub entered : List (List ℕ)
  -- how many bytes were put out
  pub printed : ℕ
  -- the path of the script that was asked for, and those of all files that can be included
  pub script : List ℕ
  pub files : List (List ℕ)

-- what the name in lower case says of a function in a message
abbrev pub name_of : Entry → List ℕ
name_of (file path) = []
name_of (function path name) = name

-- the world at a statement's line
abbrev pub at_line : ℕ → World → World
at_line line w = record w { at = record { file = path_of w.context.owner; line = line } }

-- the same world, but what runs is the code of another file or function
abbrev pub with_owner : Entry → World → World
with_owner owner w = record w { context = record w.context { owner = owner } }

abbrev pub with_vars : Variables → World → World
with_vars vars w = record w { vars = vars }

-- the world after an include, at the place and in the context of its includer
abbrev pub restored : Context → Position → World → World
restored context at w = record w { context = context; at = at }

-- the world after a call, which had variables of its own
abbrev pub returned_to : Context → Position → World → World
returned_to context at w = restored context at (with_vars (left w.vars) w)

-- the first function of that name, in lower case
abbrev pub function_in : List ℕ → List Declared → Option Declared
function_in name [] = None
function_in name (f ∷ fs) = if bytes_eq f.name name then Some f else function_in name fs

abbrev pub constant_in : List ℕ → List Constant → Option Data
constant_in name [] = None
constant_in name (c ∷ cs) = if bytes_eq c.name name then Some c.value else constant_in name cs

abbrev pub is_among : List ℕ → List (List ℕ) → Bool
is_among path [] = false
is_among path (p ∷ ps) = if bytes_eq p path then true else is_among path ps

abbrev pub with_function : Declared → World → World
with_function f w = record w { functions = w.functions ++ f ∷ [] }

abbrev pub with_constant : List ℕ → Data → World → World
with_constant name value w = record w { constants = w.constants ++ (record { name = name; value = value }) ∷ [] }

abbrev pub with_entered : List ℕ → World → World
with_entered path w = record w { entered = w.entered ++ path ∷ [] }
