-- What stands at an entry of a program, by the first file of its path.
use Rattle.std.proofs.Common.{◌≡◌, ℕ, List, [], ◌∷◌, ◌++◌, map, Bool, true, false, ◌||◌, refl, sym, ap, subst, ◌∙◌, position}
use Rattle.std.proofs.lemmas.Slice.Eq.{bytes_eq-Decides}
use Rattle.std.specs.Prelude.{if◌then◌else◌}
use Rattle.std.specs.List.{flat_map, list_any}
use Rattle.std.specs.Option.{option_map}
use Rattle.std.specs.declared.option.Option.{Option}
use Rattle.std.specs.declared.option.Option.TheVariants.{Some, None}
use Rattle.std.specs.Str.{bytes_eq}
use Rattle.php_names.specs.Tables.{found}
use Rattle.php_names.proofs.Tables.{bytes_eq-swapped}
use Rattle.php_tables.proofs.Names.{none_passes}
use Rattle.php_tree.specs.Parts.{all_without_bodies, bodies_in}
use Rattle.php_tree.specs.StatementOf.{statements_of}
use Rattle.php_tree.specs.Renamed.{renamed_statements}
use Rattle.app_load.specs.Entries.{Entry, file, function}
use Rattle.app_load.specs.Files.{Tree}
use Rattle.app_load.specs.Parts.{Part, part_of, Parts, tree_parts, part_at, body_entry}
use Rattle.app_load.proofs.Bodies.{Bodies, look}
use Rattle.app_load.proofs.PartsOf.{or_part, part_append, part_or_none, body_here, body_elsewhere, no_file}
use Rattle.php_world.specs.Naming.{Naming}
use Rattle.php_state.specs.Linked.{parts_of_file, path_of_file, AreApart}
use Rattle.php_state.specs.declared.program.ProgramFile.{ProgramFile}
use Rattle.php_bodies.specs.Files.{files_at}

-- ---- a path that no file has

absent_if : (a b : Bool) (f : ProgramFile) (x : Option ProgramFile) (r : Bool) → a ≡ b → (b || r) ≡ false → (r ≡ false → x ≡ None) → (if a then Some f else x) ≡ None
absent_if true true f x r e none more = absurd cc
absent_if false true f x r e none more = absurd cc
absent_if true false f x r e none more = absurd cc
absent_if false false f x r e none more = more none

absent : (path : List ℕ) (fs : List ProgramFile) → list_any (bytes_eq path) (map path_of_file fs) ≡ false → found path (files_at fs) ≡ None
absent path [] e = refl
absent path (f ∷ fs) e = absent_if (bytes_eq f.path path) (bytes_eq path f.path) f (found path (files_at fs)) (list_any (bytes_eq path) (map path_of_file fs)) (bytes_eq-swapped f.path path) e (absent path fs)

-- no file behind one has its path
only_one : (path : List ℕ) (f : ProgramFile) (fs : List ProgramFile) → position (bytes_eq f.path) (map path_of_file fs) ≡ None → bytes_eq f.path path ≡ true → found path (files_at fs) ≡ None
only_one path f fs apart same = subst (λ p. found p (files_at fs) ≡ None) ((bytes_eq-Decides f.path path).0 same) (absent f.path fs (none_passes (bytes_eq f.path) (map path_of_file fs) apart))

-- ---- functions

abbrev tree_at : Naming → ProgramFile → Tree
tree_at t f = renamed_statements t.name (statements_of f.statements)

abbrev pub function_in_file : Naming → List ℕ → Option ProgramFile → Option Part
function_in_file t name None = None
function_in_file t name (Some f) = part_or_none (look name (bodies_in (tree_at t f)))

or_nothing : (x : Option Part) → or_part x None ≡ x
or_nothing (Some p) = refl
or_nothing None = refl

module _ (t : Naming) (path name : List ℕ) where
  here_or_there : (b : Bool) (f : ProgramFile) (fs : List ProgramFile) → bytes_eq f.path path ≡ b → position (bytes_eq f.path) (map path_of_file fs) ≡ None
      → part_at (flat_map (parts_of_file t) fs) (function path name) ≡ function_in_file t name (found path (files_at fs))
      → or_part (part_at (map (body_entry f.path) (bodies_in (tree_at t f))) (function path name)) (part_at (flat_map (parts_of_file t) fs) (function path name)) ≡ function_in_file t name (if b then Some f else found path (files_at fs))
  here_or_there true f fs same apart ih =
      ap (λ x. or_part x (part_at (flat_map (parts_of_file t) fs) (function path name))) (body_here f.path path name (bodies_in (tree_at t f)) same)
      ∙ ap (or_part (part_or_none (look name (bodies_in (tree_at t f))))) (ih ∙ ap (function_in_file t name) (only_one path f fs apart same))
      ∙ or_nothing (part_or_none (look name (bodies_in (tree_at t f))))
  here_or_there false f fs differs apart ih = ap (λ x. or_part x (part_at (flat_map (parts_of_file t) fs) (function path name))) (body_elsewhere f.path path name (bodies_in (tree_at t f)) differs) ∙ ih

  pub function_at : (fs : List ProgramFile) → AreApart (map path_of_file fs) → part_at (flat_map (parts_of_file t) fs) (function path name) ≡ function_in_file t name (found path (files_at fs))
  function_at [] apart = refl
  function_at (f ∷ fs) apart =
      part_append (function path name) (parts_of_file t f) (flat_map (parts_of_file t) fs)
      ∙ here_or_there (bytes_eq f.path path) f fs refl apart.0 (function_at fs apart.1)

-- ---- files

abbrev pub file_part : Naming → Option ProgramFile → Option Part
file_part t None = None
file_part t (Some f) = Some (part_of (all_without_bodies (tree_at t f)))

file_if : (t : Naming) (b : Bool) (f : ProgramFile) (x y : Option Part) (z : Option ProgramFile) → x ≡ None → y ≡ file_part t z
    → or_part (if b then Some (part_of (all_without_bodies (tree_at t f))) else x) y ≡ file_part t (if b then Some f else z)
file_if t true f x y z none e = refl
file_if t false f x y z none e = ap (λ u. or_part u y) none ∙ e

pub file_at_path : (t : Naming) (path : List ℕ) (fs : List ProgramFile) → part_at (flat_map (parts_of_file t) fs) (file path) ≡ file_part t (found path (files_at fs))
file_at_path t path [] = refl
file_at_path t path (f ∷ fs) =
    part_append (file path) (parts_of_file t f) (flat_map (parts_of_file t) fs)
    ∙ file_if t (bytes_eq f.path path) f (part_at (map (body_entry f.path) (bodies_in (tree_at t f))) (file path)) (part_at (flat_map (parts_of_file t) fs) (file path)) (found path (files_at fs))
    (no_file f.path path (bodies_in (tree_at t f))) (file_at_path t path fs)
