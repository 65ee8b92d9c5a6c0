-- Numberings that have given names and texts.
use Rattle.std.specs.Prelude.{◌≡◌, ℕ, List, slice_get, Some, map}
use Rattle.php_world.specs.Naming.{Naming}
use Rattle.php_state.specs.declared.program.Program.{Program}
use Rattle.php_state.specs.Linked.{text_of_name, AreApart}
use Rattle.php_link.specs.Names.{Knows, Grows, first_names}

-- a numbering with these names, and these texts of static variables
pub record HasNumbering (names statics : List (List ℕ)) : Type 0 where
  pub naming : Naming
  pub names_are : Knows naming.name names
  pub statics_are : Knows naming.static statics
