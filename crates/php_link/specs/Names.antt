-- The names of a program's variables, while its files are linked one after another. The number of a name is its place.
use Rattle.std.specs.Prelude.{◌≡◌, ℕ, List, [], ◌∷◌, ◌++◌, map, slice_get, Some}
use Rattle.php_tree.specs.declared.name.VarName.{VarName}
use Rattle.php_tree.specs.Renamed.{name_at}
use Rattle.php_renumber.specs.declared.numbers.Numbers.{Numbers}
use Rattle.php_renumber.specs.Numbers.{number_in}
use Rattle.php_state.specs.Linked.{text_of_name, AreApart, superglobals}
use Rattle.php_link.specs.declared.names.Names.{Names}

-- a naming has these names
abbrev pub Knows : (ℕ → List ℕ) → List (List ℕ) → Type 0
Knows name texts = (n : ℕ) (text : List ℕ) → slice_get texts n ≡ Some text → name n ≡ text

-- each name keeps its number
abbrev pub Grows : List (List ℕ) → List (List ℕ) → Type 0
Grows old new = (n : ℕ) (text : List ℕ) → slice_get old n ≡ Some text → slice_get new n ≡ Some text

-- the table has the names of the list
abbrev pub AreSame : Names → Type 0
AreSame names = map text_of_name names.list ≡ names.table

-- the superglobals, and the empty name, which a number past a file's list stands for
abbrev pub first_names : List (List ℕ)
first_names = superglobals ++ [] ∷ []

-- what a step leaves of the names before it
pub record Goes (old new : Names) : Type 0 where
  pub same : AreSame new
  pub grows : Grows old.table new.table
  pub apart : AreApart old.table → AreApart new.table

-- a name has a number
pub record IsNumbered (old new : Names) (text : List ℕ) (n : ℕ) : Type 0 where
  pub goes : Goes old new
  pub stands : slice_get new.table n ≡ Some text

-- the variables of a file have the numbers of their names
pub record AreNumbered (old new : Names) (variables : List VarName) (numbers : Numbers) : Type 0 where
  pub goes : Goes old new
  pub named : (name : ℕ → List ℕ) → Knows name new.table → (n : ℕ) → name (number_in numbers n) ≡ name_at variables n
