-- What holds of the files of every application and of every copy.
use Rattle.std.specs.Prelude.{◌≡◌, ℕ, List, map, Option, Some, None, ⊤, is_some, string_bytes}
use Rattle.std.specs.List.{All}
use Rattle.std.specs.List.Sorted.{IsStrictlySortedBy}
use Rattle.std.specs.Ordering.{nat_cmp}
use Rattle.std.specs.Cmp.Lexicographic.{slice_cmp}
use Rattle.php_tree.specs.declared.file.FileTree.{FileTree}
use Rattle.php_tree.specs.StatementOf.{statements_of}
use Rattle.php_tree.specs.Functions.{functions_of}
use Rattle.app_load.specs.declared.app.AppFile.{AppFile}
use Rattle.app_load.specs.Files.{is_php}

-- the functions that are kept beside a tree are those of its statements
abbrev pub HasFunctions : Option FileTree → Type 0
HasFunctions None = ⊤
HasFunctions (Some tree) = tree.functions ≡ functions_of (statements_of tree.stmts)

abbrev pub path_bytes : AppFile → List ℕ
path_bytes f = string_bytes f.path

-- a file has a tree exactly where it is a PHP file
pub record IsWhole (f : AppFile) : Type 0 where
  pub tree : is_some f.tree ≡ is_php (path_bytes f)
  pub functions : HasFunctions f.tree

-- whole files in byte order of their paths, of which none stands twice
pub record AreWhole (files : List AppFile) : Type 0 where
  pub each : All IsWhole files
  pub ascending : IsStrictlySortedBy (slice_cmp nat_cmp) (map path_bytes files)
