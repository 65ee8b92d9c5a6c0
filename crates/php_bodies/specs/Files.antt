-- The files of a program by their paths.
use Rattle.std.specs.Prelude.{◌≡◌, ℕ, List, [], ◌∷◌, map}
use Rattle.php_names.specs.Tables.{found}
use Rattle.php_state.specs.declared.program.ProgramFile.{ProgramFile}
use Rattle.php_tree.specs.Parts.{bodies_in}
use Rattle.php_tree.specs.StatementOf.{statements_of}
use Rattle.php_bodies.specs.Tables.{FindsFirst, or_else}
use Rattle.php_bodies.specs.declared.one_file.FileBodies.{FileBodies}

-- the files of a program under their paths
abbrev pub file_at : ProgramFile → List ℕ × ProgramFile
file_at f = (f.path, f)

abbrev pub files_at : List ProgramFile → List (List ℕ × ProgramFile)
files_at = map file_at

abbrev pub file_in : List ℕ × FileBodies → List ℕ × ProgramFile
file_in p = (p.0, p.1.file.now)

abbrev pub files_named : List (List ℕ × FileBodies) → List (List ℕ × ProgramFile)
files_named = map file_in

-- a path finds in the table the file that it finds first in the program
abbrev pub FindsFiles : List (List ℕ × FileBodies) → List ProgramFile → Type 0
FindsFiles table files = (path : List ℕ) → found path (files_named table) ≡ found path (files_at files)

-- the same of a table that is not complete
abbrev pub FindsFilesOr : List (List ℕ × FileBodies) → List ProgramFile → List ProgramFile → Type 0
FindsFilesOr table left files = (path : List ℕ) → or_else (found path (files_named table)) (found path (files_at left)) ≡ found path (files_at files)

-- the bodies of a file are those in its statements
abbrev pub Holds : FileBodies → Type 0
Holds b = FindsFirst b.bodies (bodies_in (statements_of b.file.now.statements))

abbrev pub AllHold : List (List ℕ × FileBodies) → Type 0
AllHold [] = Unit {0}
AllHold (p ∷ ps) = Holds p.1 × AllHold ps
