-- The constants of a run, and what names stand for in a world.
use Rattle.std.specs.Prelude.{◌≡◌, ℕ, List, map}
use Rattle.php_values.specs.declared.value.Value.{Value}
use Rattle.php_values.specs.Data.{data_of}
use Rattle.php_meaning.specs.World.{World, Constant, path_of}

abbrev pub constant_of : List ℕ × Value → Constant
constant_of p = record { name = p.0; value = data_of p.1 }

-- what a table of constants stands for
abbrev pub constants_of : List (List ℕ × Value) → List Constant
constants_of table = map constant_of table

-- a world with these constants, in which the code of a file at a path runs
pub record Knows (path : List ℕ) (table : List (List ℕ × Value)) (w : World) : Type 0 where
  pub path_is : path_of w.context.owner ≡ path
  pub constants_are : w.constants ≡ constants_of table
