-- A program and the files of which it is linked.
use Rattle.std.specs.Prelude.{◌≡◌, ℕ, List, [], ◌∷◌, ◌++◌, map, slice_get, Option, Some, None}
use Rattle.php_tree.specs.declared.name.VarName.{VarName}
use Rattle.php_tree.specs.declared.file.FileTree.{FileTree}
use Rattle.php_tree.specs.StatementOf.{statements_of}
use Rattle.php_tree.specs.Renamed.{renamed_statements}
use Rattle.app_load.specs.declared.app.AppFile.{AppFile}
use Rattle.app_load.specs.Files.{Tree, File, tree_of, file_of, files_of}
use Rattle.app_load.specs.Parts.{parts}
use Rattle.app_load.specs.CopyParts.{paths_of}
use Rattle.php_world.specs.Naming.{Naming}
use Rattle.php_state.specs.declared.program.ProgramFile.{ProgramFile}
use Rattle.php_state.specs.declared.program.Program.{Program}
use Rattle.php_state.specs.Linked.{program_parts, text_of_name, AreApart, IsLinked}
use Rattle.php_link.specs.declared.names.Names.{Names}
use Rattle.php_link.specs.Names.{Knows, Goes, first_names, Grows}

-- a PHP file by its path and its tree, with variables by name
abbrev pub PhpFile : Type 0
PhpFile = List ℕ × Tree

abbrev pub if_php : List ℕ → Option Tree → List PhpFile
if_php path None = []
if_php path (Some ss) = (path, ss) ∷ []

-- the PHP files among files
abbrev pub php_files : List File → List PhpFile
php_files [] = []
php_files (f ∷ fs) = if_php f.path f.tree ++ php_files fs

abbrev pub file_named : (ℕ → List ℕ) → ProgramFile → PhpFile
file_named name f = (f.path, renamed_statements name (statements_of f.statements))

-- a file was copied with other numbers
pub record IsLinkedFile (old new : Names) (path : List ℕ) (tree : FileTree) (f : ProgramFile) : Type 0 where
  pub goes : Goes old new
  pub is : (name : ℕ → List ℕ) → Knows name new.table → file_named name f ≡ (path, tree_of tree)

-- the PHP files among files were copied, behind those before them
pub record AreLinked (old new : Names) (files : List AppFile) (before after : List ProgramFile) : Type 0 where
  pub goes : Goes old new
  pub are : (name : ℕ → List ℕ) → Knows name new.table → map (file_named name) after ≡ map (file_named name) before ++ php_files (files_of files)

-- a numbering has the names of a program
abbrev pub HasNames : Naming → Program → Type 0
HasNames t p = (n : ℕ) (x : VarName) → slice_get p.names n ≡ Some x → t.name n ≡ x.text

-- a program stands for files, by every numbering that has its names
pub record IsLinkOf (files : List AppFile) (p : Program) : Type 0 where
  pub linked : IsLinked p
  pub files_are : (t : Naming) → HasNames t p → map (file_named t.name) p.files ≡ php_files (files_of files)
  pub parts_are : (t : Naming) → HasNames t p → program_parts t p ≡ parts (files_of files)
  pub paths_are : p.paths ≡ paths_of (parts (files_of files))
  pub names_differ : AreApart (map text_of_name p.names)
  pub names_begin : Grows first_names (map text_of_name p.names)
