-- The bodies of a tree, as they were collected.
use Rattle.std.specs.Prelude.{◌≡◌, ℕ, List, ◌++◌, map}
use Rattle.php_tree.specs.Statements.{Statements}
use Rattle.php_tree.specs.StatementOf.{statements_of}
use Rattle.php_tree.specs.Parts.{all_without_bodies}
use Rattle.php_bodies.specs.declared.collect.Body.{Body}

-- a body under its name, with the bodies of the functions inside it taken out
abbrev pub body_of : Body → List ℕ × Statements ℕ
body_of b = (b.name.items, all_without_bodies (statements_of b.statements.now))

abbrev pub bodies_of : List Body → List (List ℕ × Statements ℕ)
bodies_of = map body_of

-- bodies were put behind those that there were
abbrev pub Adds : List Body → List Body → List (List ℕ × Statements ℕ) → Type 0
Adds old new more = bodies_of new ≡ bodies_of old ++ more
