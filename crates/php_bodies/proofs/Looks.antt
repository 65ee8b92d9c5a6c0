-- What stands at an entry, by what is found in the table of files.
use Rattle.std.proofs.Common.{◌≡◌, ℕ, List, [], ◌∷◌, Bool, true, false, refl, sym, ap, subst, ◌∙◌}
use Rattle.std.specs.Prelude.{if◌then◌else◌}
use Rattle.std.specs.Borrow.{Bor}
use Rattle.std.specs.Option.{option_map}
use Rattle.std.specs.declared.option.Option.{Option}
use Rattle.std.specs.declared.option.Option.TheVariants.{Some, None}
use Rattle.std.specs.Str.{bytes_eq}
use Rattle.app_load.specs.CopyParts.{IsGone}
use Rattle.app_load.specs.Entries.{file, function}
use Rattle.app_load.specs.Files.{Tree}
use Rattle.app_load.specs.Parts.{Part, part_of}
use Rattle.app_load.proofs.Bodies.{Bodies, look}
use Rattle.app_load.proofs.PartsOf.{part_or_none}
use Rattle.php_names.specs.Tables.{found}
use Rattle.php_tree.specs.declared.stmt.Stmt.{Stmt}
use Rattle.php_tree.specs.Parts.{all_without_bodies, bodies_in}
use Rattle.php_tree.specs.Renamed.{renamed_statements}
use Rattle.php_tree.specs.StatementOf.{statements_of}
use Rattle.php_world.specs.Naming.{Naming}
use Rattle.php_rest.specs.Named.{block_named}
use Rattle.php_state.specs.Linked.{AreApart}
use Rattle.php_state.specs.declared.program.Program.{Program}
use Rattle.php_state.specs.declared.program.ProgramFile.{ProgramFile}
use Rattle.php_bodies.specs.Files.{Holds, files_at}
use Rattle.php_bodies.specs.Look.{IsAt, look_in}
use Rattle.php_bodies.specs.Whole.{AreBodies}
use Rattle.php_bodies.specs.declared.bodies.Bodies as code
use Rattle.php_bodies.specs.declared.one_file.FileBodies.{FileBodies}
use Rattle.php_bodies.proofs.Found.{file_at_path, file_part, function_at, function_in_file}
use Rattle.php_bodies.proofs.PathTables.{found_holds}
use Rattle.php_bodies.proofs.Renamed.{all_without, all_listed}
use Rattle.php_bodies.proofs.Tables.{found_map}

abbrev the_file : FileBodies → ProgramFile
the_file x = x.file.now

module _ (p : Program) (b : code.Bodies) (t : Naming) (path : List ℕ) (are : AreBodies p b) (x : Option FileBodies) (e : found path b.files ≡ x) where
  file_found : found path (files_at p.files) ≡ option_map the_file x
  file_found = sym (are.files path) ∙ found_map the_file path b.files ∙ ap (option_map the_file) e

  file_look : look_in p t (file path) ≡ file_part t (option_map the_file x)
  file_look = file_at_path t path p.files ∙ ap (file_part t) file_found

  function_look : (name : List ℕ) → look_in p t (function path name) ≡ function_in_file t name (option_map the_file x)
  function_look name = function_at t path name p.files (subst AreApart are.linked.paths_are are.linked.paths_differ) ∙ ap (function_in_file t name) file_found

-- ---- the body of a function

looked : (name : List ℕ) (bs : Bodies) → look name bs ≡ found name bs
looked name [] = refl
looked name ((m, b) ∷ bs) = ap (λ x. if bytes_eq m name then Some b else x) (looked name bs)

abbrev body_part : Naming → Option (Bor (List Stmt)) → Option Part
body_part t None = None
body_part t (Some ss) = Some (part_of (block_named t ss.now))

part_named : (t : Naming) (y : Option (Bor (List Stmt))) → part_or_none (option_map (renamed_statements t.name) (option_map (λ ss. all_without_bodies (statements_of ss.now)) y)) ≡ body_part t y
part_named t None = refl
part_named t (Some ss) = ap (λ l. Some (part_of l)) (sym (all_without t.name (statements_of ss.now)))

function_body : (t : Naming) (name : List ℕ) (x : FileBodies) (y : Option (Bor (List Stmt))) → Holds x → found name x.bodies ≡ y → function_in_file t name (Some x.file.now) ≡ body_part t y
function_body t name x y holds e =
    let inside : found name (bodies_in (statements_of x.file.now.statements)) ≡ option_map (λ ss. all_without_bodies (statements_of ss.now)) y =
    sym (holds name) ∙ found_map (λ ss. all_without_bodies (statements_of ss.now)) name x.bodies ∙ ap (option_map (λ ss. all_without_bodies (statements_of ss.now))) e in
    ap part_or_none (looked name (bodies_in (renamed_statements t.name (statements_of x.file.now.statements)))
    ∙ ap (found name) (all_listed t.name (statements_of x.file.now.statements))
    ∙ found_map (renamed_statements t.name) name (bodies_in (statements_of x.file.now.statements))
    ∙ ap (option_map (renamed_statements t.name)) inside)
    ∙ part_named t y

-- ---- what is found

module _ (p : Program) (b : code.Bodies) (t : Naming) (path : List ℕ) (are : AreBodies p b) where
  pub no_file_there : found path b.files ≡ None → IsGone (look_in p t (file path))
  no_file_there e = subst IsGone (sym (file_look p b t path are None e)) (tt {0})

  pub file_there : (x : FileBodies) (r : Option (Bor (List Stmt))) → found path b.files ≡ Some x → IsAt t (Some (part_of (block_named t x.file.now.statements))) r → IsAt t (look_in p t (file path)) r
  file_there x r e at = subst (λ q. IsAt t q r) (sym (file_look p b t path are (Some x) e)) at

  module _ (name : List ℕ) where
    pub no_file_for : found path b.files ≡ None → IsGone (look_in p t (function path name))
    no_file_for e = subst IsGone (sym (function_look p b t path are None e name)) (tt {0})

    body_look : (x : FileBodies) (y : Option (Bor (List Stmt))) → found path b.files ≡ Some x → found name x.bodies ≡ y → look_in p t (function path name) ≡ body_part t y
    body_look x y e g = function_look p b t path are (Some x) e name ∙ function_body t name x y (found_holds path b.files x e are.all) g

    pub no_body_there : (x : FileBodies) → found path b.files ≡ Some x → found name x.bodies ≡ None → IsGone (look_in p t (function path name))
    no_body_there x e g = subst IsGone (sym (body_look x None e g)) (tt {0})

    pub body_there : (x : FileBodies) (ss : Bor (List Stmt)) (r : Option (Bor (List Stmt))) → found path b.files ≡ Some x → found name x.bodies ≡ Some ss → IsAt t (Some (part_of (block_named t ss.now))) r → IsAt t (look_in p t (function path name)) r
    body_there x ss r e g at = subst (λ q. IsAt t q r) (sym (body_look x (Some ss) e g)) at
