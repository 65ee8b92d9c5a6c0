-- The entries of an application with their ordinals: 0 for a PHP file, and for its functions from 1 in text order.
use Rattle.std.specs.Prelude.{ℕ, List, [], ◌∷◌, map, Option, Some, None, if◌then◌else◌, string_bytes}
use Rattle.std.specs.List.{flat_map}
use Rattle.php_tree.specs.declared.file.FileTree.{FileTree}
use Rattle.php_tree.specs.declared.file.FunSpan.{FunSpan}
use Rattle.php_tree.specs.StatementOf.{statements_of}
use Rattle.php_tree.specs.Functions.{functions_of}
use Rattle.app_load.specs.declared.app.AppFile.{AppFile}
use Rattle.app_load.specs.Entries.{Entry, file, function, is_same}

abbrev pub function_entry : List ℕ → FunSpan → Entry × ℕ
function_entry path f = (function path f.name, f.ordinal)

-- a file that is no PHP file has none
abbrev pub tree_entries : List ℕ → Option FileTree → List (Entry × ℕ)
tree_entries path None = []
tree_entries path (Some tree) = (file path, 0) ∷ map (function_entry path) (functions_of (statements_of tree.stmts))

abbrev pub file_entries : AppFile → List (Entry × ℕ)
file_entries f = tree_entries (string_bytes f.path) f.tree

-- file by file
abbrev pub entries_in : List AppFile → List (Entry × ℕ)
entries_in files = flat_map file_entries files

-- the ordinal of an entry among some; none where it is not among them
abbrev pub ordinal_in : List (Entry × ℕ) → Entry → Option ℕ
ordinal_in [] e = None
ordinal_in ((d, n) ∷ rest) e = if is_same d e then Some n else ordinal_in rest e

-- the ordinal of an entry of an application
abbrev pub ordinal_of : List AppFile → Entry → Option ℕ
ordinal_of files e = ordinal_in (entries_in files) e
