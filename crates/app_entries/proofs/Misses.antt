-- The entries of a file whose path is another are not looked at.
use Rattle.std.proofs.Common.{◌≡◌, ℕ, ◌&&◌, true, false, cond, List, [], ◌∷◌, ◌++◌, map, Option, None, Some, refl, sym, ap, ◌∙◌}
use Rattle.std.specs.List.{AllByRecursion}
use Rattle.std.specs.Str.{bytes_eq}
use Rattle.std.specs.Cmp.{unsigned_Decides}
use Rattle.std.proofs.lemmas.Slice.Eq.{slice_eq-Decides}
use Rattle.std.proofs.lemmas.List.Concat.{flat_map-cons}
use Rattle.std.proofs.lemmas.Grind.{flat_map-append}
use Rattle.php_tree.specs.declared.file.FileTree.{FileTree}
use Rattle.php_tree.specs.declared.file.FunSpan.{FunSpan}
use Rattle.php_tree.specs.StatementOf.{statements_of}
use Rattle.php_tree.specs.Functions.{functions_of}
use Rattle.app_load.specs.declared.app.AppFile.{AppFile}
use Rattle.app_load.specs.Entries.{Entry, file, function, is_same}
use Rattle.app_files.specs.FileSets.{path_bytes}
use Rattle.app_entries.specs.Ordinals.{function_entry, tree_entries, file_entries, entries_in, ordinal_in, ordinal_of}
use Rattle.app_entries.specs.Search.{path_of, function_ordinal}

-- ---- one file

functions_missed : (path : List ℕ) (fs : List FunSpan) (rest : List (Entry × ℕ)) (e : Entry) → bytes_eq path (path_of e) ≡ false → ordinal_in (map (function_entry path) fs ++ rest) e ≡ ordinal_in rest e
functions_missed path [] rest e other = refl
functions_missed path (f ∷ fs) rest (file q) other = functions_missed path fs rest (file q) other
functions_missed path (f ∷ fs) rest (function q m) other =
    ap (λ b. cond (b && bytes_eq f.name m) (Some f.ordinal) (ordinal_in (map (function_entry path) fs ++ rest) (function q m))) other
    ∙ functions_missed path fs rest (function q m) other

tree_missed : (path : List ℕ) (tree : Option FileTree) (rest : List (Entry × ℕ)) (e : Entry) → bytes_eq path (path_of e) ≡ false → ordinal_in (tree_entries path tree ++ rest) e ≡ ordinal_in rest e
tree_missed path None rest e other = refl
tree_missed path (Some tree) rest (file q) other =
    ap (λ b. cond b (Some 0) (ordinal_in (map (function_entry path) (functions_of (statements_of tree.stmts)) ++ rest) (file q))) other
    ∙ functions_missed path (functions_of (statements_of tree.stmts)) rest (file q) other
tree_missed path (Some tree) rest (function q m) other = functions_missed path (functions_of (statements_of tree.stmts)) rest (function q m) other

-- ---- many files

abbrev pub IsOther : Entry → AppFile → Type 0
IsOther e f = bytes_eq (path_bytes f) (path_of e) ≡ false

pub front_missed : (front rest : List AppFile) (e : Entry) → AllByRecursion (IsOther e) front → ordinal_of (front ++ rest) e ≡ ordinal_of rest e
front_missed [] rest e others = refl
front_missed (f ∷ front) rest e others =
    ap (λ l. ordinal_in l e) (flat_map-cons file_entries f (front ++ rest))
    ∙ tree_missed (path_bytes f) f.tree (entries_in (front ++ rest)) e others.0
    ∙ front_missed front rest e others.1

all_missed : (files : List AppFile) (e : Entry) → AllByRecursion (IsOther e) files → ordinal_of files e ≡ None
all_missed [] e others = refl
all_missed (f ∷ files) e others =
    ap (λ l. ordinal_in l e) (flat_map-cons file_entries f files)
    ∙ tree_missed (path_bytes f) f.tree (entries_in files) e others.0
    ∙ all_missed files e others.1

-- what follows has none of it
none_behind : (entries rest : List (Entry × ℕ)) (e : Entry) → ordinal_in rest e ≡ None → ordinal_in (entries ++ rest) e ≡ ordinal_in entries e
none_behind [] rest e none = none
none_behind ((d, n) ∷ entries) rest e none = ap (λ o. cond (is_same d e) (Some n) o) (none_behind entries rest e none)

pub back_missed : (front back : List AppFile) (e : Entry) → AllByRecursion (IsOther e) back → ordinal_of (front ++ back) e ≡ ordinal_of front e
back_missed front back e others =
    ap (λ l. ordinal_in l e) (flat_map-append file_entries front back)
    ∙ none_behind (entries_in front) (entries_in back) e (all_missed back e others)

pub middle_kept : (front behind : List AppFile) (f : AppFile) (e : Entry) → AllByRecursion (IsOther e) front → AllByRecursion (IsOther e) behind → ordinal_of (front ++ f ∷ behind) e ≡ ordinal_in (file_entries f) e
middle_kept front behind f e before after =
    front_missed front (f ∷ behind) e before
    ∙ ap (λ l. ordinal_in l e) (flat_map-cons file_entries f behind)
    ∙ none_behind (file_entries f) (entries_in behind) e (all_missed behind e after)

-- ---- the functions of one file

same_path : (path : List ℕ) → bytes_eq path path ≡ true
same_path path = (slice_eq-Decides unsigned_Decides path path (bytes_eq path path) refl).1 refl

function_found : (path name : List ℕ) (fs : List FunSpan) → ordinal_in (map (function_entry path) fs) (function path name) ≡ function_ordinal fs name
function_found path name [] = refl
function_found path name (f ∷ fs) =
    ap (λ b. cond (b && bytes_eq f.name name) (Some f.ordinal) (ordinal_in (map (function_entry path) fs) (function path name))) (same_path path)
    ∙ ap (λ o. cond (bytes_eq f.name name) (Some f.ordinal) o) (function_found path name fs)

pub function_in : (path q name : List ℕ) (tree : Option FileTree) (there : FileTree) (o : Option ℕ) → tree ≡ Some there → path ≡ q → there.functions ≡ functions_of (statements_of there.stmts) → o ≡ function_ordinal there.functions name
    → o ≡ ordinal_in (tree_entries path tree) (function q name)
function_in path q name tree there o is same has found =
    found
    ∙ ap (λ fs. function_ordinal fs name) has
    ∙ sym (function_found path name (functions_of (statements_of there.stmts)))
    ∙ ap (λ t. ordinal_in (tree_entries path t) (function path name)) (sym is)
    ∙ ap (λ p. ordinal_in (tree_entries path tree) (function p name)) same
