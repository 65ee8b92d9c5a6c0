-- Files as definitions see them. A PHP file has a tree, in which variables stand by their names; every other file has none.
use Rattle.std.specs.Prelude.{ℕ, Bool, List, map, nat_eq, Option, Some, None, string_bytes, codes}
use Rattle.std.specs.List.{ends_with}
use Rattle.php_tree.specs.declared.file.FileTree.{FileTree}
use Rattle.php_tree.specs.Statements.{Statements}
use Rattle.php_tree.specs.StatementOf.{statements_of}
use Rattle.php_tree.specs.Renamed.{renamed_statements, name_at}
use Rattle.app_load.specs.declared.app.AppFile.{AppFile}

-- a PHP file, by its path
abbrev pub is_php : List ℕ → Bool
is_php path = ends_with nat_eq path (codes ".php")

-- statements, with variables by name
abbrev pub Tree : Type 0
Tree = Statements (List ℕ)

pub record File : Type 0 where
  pub path : List ℕ
  pub text : List ℕ
  pub tree : Option Tree

abbrev pub tree_of : FileTree → Tree
tree_of t = renamed_statements (name_at t.variables) (statements_of t.stmts)

abbrev pub tree_or_none : Option FileTree → Option Tree
tree_or_none None = None
tree_or_none (Some t) = Some (tree_of t)

-- what a file of the code stands for
abbrev pub file_of : AppFile → File
file_of f = record { path = string_bytes f.path; text = f.text.items; tree = tree_or_none f.tree }

abbrev pub files_of : List AppFile → List File
files_of = map file_of
