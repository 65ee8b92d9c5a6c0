-- Functions under their names.
use Rattle.std.specs.Prelude.{◌≡◌, ℕ, List, map}
use Rattle.std.specs.Str.{str_to_ascii_lowercase}
use Rattle.php_tree.specs.declared.decl.FunDecl.{out-FunDecl}
use Rattle.php_tables.specs.declared.function.Function.{Function}

-- the name of a function in lower case
abbrev pub lower_name : Function → List ℕ
lower_name f = str_to_ascii_lowercase (out-FunDecl f.declaration.now).name.text

-- each function stands under its name in lower case
abbrev pub IsNamed : List (List ℕ × Function) → Type 0
IsNamed table = map (λ p. p.0) table ≡ map (λ p. lower_name p.1) table
