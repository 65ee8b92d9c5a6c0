-- Bodies by their names.
use Rattle.std.specs.Prelude.{◌≡◌, ℕ, List, [], ◌∷◌, map, if◌then◌else◌}
use Rattle.std.specs.Borrow.{Bor}
use Rattle.std.specs.Option.{option_map}
use Rattle.std.specs.declared.option.Option.{Option}
use Rattle.std.specs.declared.option.Option.TheVariants.{Some, None}
use Rattle.std.specs.Str.{bytes_eq}
use Rattle.php_names.specs.Tables.{found}
use Rattle.php_tree.specs.declared.stmt.Stmt.{Stmt}
use Rattle.php_tree.specs.Parts.{all_without_bodies, bodies_in}
use Rattle.php_tree.specs.StatementOf.{statements_of}
use Rattle.php_tree.specs.Statements.{Statements}
use Rattle.php_bodies.specs.Collected.{bodies_of}
use Rattle.php_bodies.specs.declared.collect.Body.{Body}

-- bodies under their names
abbrev pub Named : Type 0
Named = List (List ℕ × Bor (List Stmt))

abbrev pub body_in : List ℕ × Bor (List Stmt) → List ℕ × Statements ℕ
body_in p = (p.0, all_without_bodies (statements_of p.1.now))

abbrev pub bodies_named : Named → List (List ℕ × Statements ℕ)
bodies_named = map body_in

-- a name finds in the table what it finds first in the list
abbrev pub FindsFirst : Named → List (List ℕ × Statements ℕ) → Type 0
FindsFirst table bodies = (name : List ℕ) → found name (bodies_named table) ≡ found name bodies

abbrev pub or_else : {A : Type 0} → Option A → Option A → Option A
or_else (Some b) other = Some b
or_else None other = other

-- the same of a table that is not complete: else it is found among those that are left
abbrev pub FindsOr : Named → List (List ℕ × Statements ℕ) → List (List ℕ × Statements ℕ) → Type 0
FindsOr table left bodies = (name : List ℕ) → or_else (found name (bodies_named table)) (found name left) ≡ found name bodies
