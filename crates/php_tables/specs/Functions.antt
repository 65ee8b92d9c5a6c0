-- The functions that were declared, by name.
use Rattle.std.specs.Prelude.{ℕ, List, [], ◌∷◌, map, Option, Some, None, if◌then◌else◌}
use Rattle.std.specs.Str.{bytes_eq}
use Rattle.php_tables.specs.Named.{lower_name}
use Rattle.php_tables.specs.declared.function.Function.{Function}
use Rattle.php_tables.specs.declared.functions.Functions.{Functions}

-- in the order in which they were declared
abbrev pub functions_of : Functions → List Function
functions_of fs = map (λ p. p.1) fs.table

-- the first function of a name in lower case
abbrev pub first_named : List ℕ → List Function → Option Function
first_named name [] = None
first_named name (f ∷ fs) = if bytes_eq (lower_name f) name then Some f else first_named name fs
