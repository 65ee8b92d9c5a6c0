-- A placeholder.
use Rattle.std.specs.Prelude.{Bool, true, false}
use Rattle.php_tree.specs.Statements as s
use Rattle.php_tree.specs.Statements.{Statement}

abbrev pub is_removed : {V : Type 0} → Statement V → Bool
is_removed (s.removed what path name l) = true
is_removed x = false
