-- The functions that were declared, and what names call among them.
use Rattle.std.specs.Prelude.{◌≡◌, ℕ, List, [], ◌∷◌, ◌++◌, map, Bool, true, false}
use Rattle.std.specs.declared.option.Option.{Option}
use Rattle.std.specs.Option.{is_some}
use Rattle.php_world.specs.Naming.{Naming}
use Rattle.php_tables.specs.Functions.{functions_of}
use Rattle.php_tables.specs.declared.function.Function.{Function}
use Rattle.php_tables.specs.declared.functions.Functions.{Functions}
use Rattle.php_meaning.specs.World.{Declared, function_in}
use Rattle.php_meaning.specs.Calls.{Callee, program_or, library_callee}
use Rattle.php_rest.specs.Views.{function_named}

-- the functions of a table, with the names of their variables
abbrev pub declared_in : Naming → Functions → List Declared
declared_in t fs = map (function_named t) (functions_of fs)

-- what a name in lower case calls where these functions are declared
abbrev pub called_in : List ℕ → List Declared → Option Callee
called_in name fs = program_or (function_in name fs) (library_callee name)

-- a function was declared behind the others, or its name was taken and nothing changed
abbrev pub Declares : Naming → Functions → Functions → Function → Bool → Type 0
Declares t old new f true = (is_some (called_in (function_named t f).name (declared_in t old)) ≡ false) × (declared_in t new ≡ declared_in t old ++ function_named t f ∷ [])
Declares t old new f false = (is_some (called_in (function_named t f).name (declared_in t old)) ≡ true) × (declared_in t new ≡ declared_in t old)
