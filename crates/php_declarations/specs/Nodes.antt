-- The statements that declare something.
use Rattle.std.specs.Prelude.{Bool, true, false}
use Rattle.php_tree.specs.Statements as s
use Rattle.php_tree.specs.Statements.{Statement}

-- `static`, `const` and a function
abbrev pub is_declaration : {V : Type 0} → Statement V → Bool
is_declaration (s.static_vars xs l) = true
is_declaration (s.constants cs l) = true
is_declaration (s.function f l) = true
is_declaration _ = false

abbrev pub is_function : {V : Type 0} → Statement V → Bool
is_function (s.function f l) = true
is_function _ = false
