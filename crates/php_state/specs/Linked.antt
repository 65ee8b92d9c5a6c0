-- What a program stands for: its parts, as those of an application.
use Rattle.std.specs.Prelude.{◌≡◌, ℕ, List, [], ◌∷◌, map, take, position, codes}
use Rattle.std.specs.declared.option.Option.TheVariants.{None}
use Rattle.std.specs.List.{flat_map}
use Rattle.std.specs.Str.{bytes_eq}
use Rattle.php_tree.specs.declared.name.VarName.{VarName}
use Rattle.php_tree.specs.StatementOf.{statements_of}
use Rattle.php_tree.specs.Renamed.{renamed_statements}
use Rattle.app_load.specs.Parts.{Parts, tree_parts}
use Rattle.php_world.specs.Naming.{Naming}
use Rattle.php_state.specs.declared.program.ProgramFile.{ProgramFile}
use Rattle.php_state.specs.declared.program.Program.{Program}

abbrev pub parts_of_file : Naming → ProgramFile → Parts
parts_of_file t f = tree_parts f.path (renamed_statements t.name (statements_of f.statements))

-- what stands at each entry of a program
abbrev pub program_parts : Naming → Program → Parts
program_parts t p = flat_map (parts_of_file t) p.files

abbrev pub path_of_file : ProgramFile → List ℕ
path_of_file f = f.path

abbrev pub text_of_name : VarName → List ℕ
text_of_name x = x.text

-- no path stands twice
abbrev pub AreApart : List (List ℕ) → Type 0
AreApart [] = Unit {0}
AreApart (p ∷ ps) = (position (bytes_eq p) ps ≡ None) × AreApart ps

abbrev pub superglobals : List (List ℕ)
superglobals = codes "_GET" ∷ codes "_POST" ∷ codes "_COOKIE" ∷ codes "_REQUEST" ∷ codes "_SERVER" ∷ codes "_SESSION" ∷ []

-- the paths are those of the files, and the superglobals have the first numbers
pub record IsLinked (p : Program) : Type 0 where
  pub paths_are : p.paths ≡ map path_of_file p.files
  pub paths_differ : AreApart p.paths
  pub names_begin : take 6 (map text_of_name p.names) ≡ superglobals
