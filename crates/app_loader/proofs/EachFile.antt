-- How files are judged, one after the other.
use Rattle.std.proofs.Common.{◌≡◌, ℕ, Bool, true, false, List, [], ◌∷◌, ◌++◌, map, Option, Some, None, is_some, refl, sym, ap, ◌∙◌, subst, String, string_bytes, Vec}
use Rattle.std.specs.Prelude.{reverse}
use Rattle.std.specs.List.{All}
use Rattle.std.specs.declared.alloc.Global.{Global}
use Rattle.std.proofs.lemmas.List.{reverse-append, reverse-reverse}
use Rattle.std.proofs.lemmas.List.Elements.{All-from_recursion, All-push}
use Rattle.php_tree.specs.declared.file.FileTree.{FileTree}
use Rattle.php_tree.specs.StatementOf.{statements_of}
use Rattle.php_tree.specs.Functions.{functions_of}
use Rattle.app_load.specs.declared.app.AppFile.{AppFile}
use Rattle.app_load.specs.declared.fault.AppKind.{AppKind}
use Rattle.app_load.specs.declared.judge.Setting.{Setting}
use Rattle.app_load.specs.Files.{File, is_php, tree_of, file_of, files_of}
use Rattle.app_load.specs.Judged.{Judged, good, bad, stray}
use Rattle.app_load.specs.Applications as a
use Rattle.app_load.specs.Applications.{Text, text_of, Outcome, accepted, refused, strayed, with_file, FilesJudged}
use Rattle.app_files.specs.FileSets.{IsWhole}
use Rattle.app_loader.specs.declared.fault.LoadFault.{LoadFault}
use Rattle.app_loader.specs.declared.fault.LoadFault.TheVariants.{At, Stray, Memory}
use Rattle.app_loader.specs.Loading.{with_files, IsGood, IsBad, AreRefused}

abbrev Pair : Type 0
Pair = String Global × Vec ℕ Global

abbrev with_tree : String Global → Vec ℕ Global → Option FileTree → AppFile
with_tree path text tree = record { path = path; text = text; tree = tree }

-- ---- one file

pub static_good : (setting : Setting) (path : String Global) (text : Vec ℕ Global) → is_php (string_bytes path) ≡ false
    → IsGood setting (string_bytes path, text.items) (file_of (with_tree path text None))
static_good setting path text is = λ ts o rest. a.static is rest

pub static_whole : (path : String Global) (text : Vec ℕ Global) → is_php (string_bytes path) ≡ false → IsWhole (with_tree path text None)
static_whole path text is = record { tree = sym is; functions = tt }

pub php_good : (setting : Setting) (path : String Global) (text : Vec ℕ Global) (tree : FileTree) → is_php (string_bytes path) ≡ true
    → Judged setting (string_bytes path) text.items (good (tree_of tree)) → IsGood setting (string_bytes path, text.items) (file_of (with_tree path text (Some tree)))
php_good setting path text tree is judged = λ ts o rest. a.php is judged rest

pub php_whole : (path : String Global) (text : Vec ℕ Global) (tree : FileTree) → is_php (string_bytes path) ≡ true → tree.functions ≡ functions_of (statements_of tree.stmts)
    → IsWhole (with_tree path text (Some tree))
php_whole path text tree is functions = record { tree = sym is; functions = functions }

pub php_refused : (setting : Setting) (path : String Global) (text : List ℕ) (line : ℕ) (kind : AppKind) → is_php (string_bytes path) ≡ true
    → Judged setting (string_bytes path) text (bad line kind) → IsBad setting (string_bytes path, text) (At path line kind)
php_refused setting path text line kind is judged = λ ts. a.php_bad is judged

pub php_strayed : (setting : Setting) (path : String Global) (text : List ℕ) (line : ℕ) → is_php (string_bytes path) ≡ true
    → Judged setting (string_bytes path) text (stray line) → IsBad setting (string_bytes path, text) (Stray path line)
php_strayed setting path text line is judged = λ ts. a.php_stray is judged

-- ---- more of them

with_one_more : (fs : List AppFile) (f : AppFile) (o : Outcome) → with_files (files_of (fs ++ f ∷ [])) o ≡ with_files (files_of fs) (with_file (file_of f) o)
with_one_more [] f o = refl
with_one_more (g ∷ fs) f o = ap (with_file (file_of g)) (with_one_more fs f o)

with_none : (fs : List File) → with_files fs (accepted []) ≡ accepted fs
with_none [] = refl
with_none (f ∷ fs) = ap (with_file f) (with_none fs)

with_refused : (fs : List File) (path : List ℕ) (l : ℕ) (k : AppKind) → with_files fs (refused path l k) ≡ refused path l k
with_refused [] path l k = refl
with_refused (f ∷ fs) path l k = ap (with_file f) (with_refused fs path l k)

with_strayed : (fs : List File) (path : List ℕ) (l : ℕ) → with_files fs (strayed path l) ≡ strayed path l
with_strayed [] path l = refl
with_strayed (f ∷ fs) path l = ap (with_file f) (with_strayed fs path l)

-- What is told of the files that are left, last first, is told of all of them with the judged ones before them.
pub record Judging (setting : Setting) (all : List Text) (left : List Pair) (judged : List AppFile) : Type 0 where
  pub goes : (o : Outcome) → FilesJudged setting (map text_of (reverse left)) o → FilesJudged setting all (with_files (files_of judged) o)
  pub whole : All IsWhole judged

pub begins : (setting : Setting) (files left : List Pair) (judged : List AppFile) → left ≡ reverse files → judged ≡ [] → Judging setting (map text_of files) left judged
begins setting files left judged is none =
    let back : reverse left ≡ files = ap reverse is ∙ reverse-reverse files in
    subst (Judging setting (map text_of files) left) (sym none) (record {
      goes = λ o told. subst (λ xs. FilesJudged setting (map text_of xs) o) back told;
      whole = All-from_recursion IsWhole [] tt;
    })

-- a file that was left, and those that are left after it
behind : (left before : List Pair) (t : Pair) → before ≡ left ++ t ∷ [] → map text_of (reverse before) ≡ text_of t ∷ map text_of (reverse left)
behind left before t is = ap (λ xs. map text_of (reverse xs)) is ∙ ap (map text_of) (reverse-append left (t ∷ []))

pub goes_on : (setting : Setting) (all : List Text) (left before : List Pair) (t : Pair) (judged more : List AppFile) (f : AppFile) → before ≡ left ++ t ∷ []
    → Judging setting all before judged → IsGood setting (text_of t) (file_of f) → IsWhole f → more ≡ judged ++ f ∷ [] → Judging setting all left more
goes_on setting all left before t judged more f is judging fine whole added = subst (Judging setting all left) (sym added) (record {
  goes = λ o told. subst (FilesJudged setting all) (sym (with_one_more judged f o))
      (judging.goes (with_file (file_of f) o) (subst (λ ts. FilesJudged setting ts (with_file (file_of f) o)) (sym (behind left before t is)) (fine (map text_of (reverse left)) o told)));
  whole = All-push IsWhole judged f judging.whole whole;
})

pub stops : (setting : Setting) (all : List Text) (left before : List Pair) (t : Pair) (judged : List AppFile) (e : LoadFault) → before ≡ left ++ t ∷ []
    → Judging setting all before judged → IsBad setting (text_of t) e → AreRefused setting all e
stops setting all left before t judged (At path l k) is judging wrong =
    subst (FilesJudged setting all) (with_refused (files_of judged) (string_bytes path) l k)
    (judging.goes (refused (string_bytes path) l k) (subst (λ ts. FilesJudged setting ts (refused (string_bytes path) l k)) (sym (behind left before t is)) (wrong (map text_of (reverse left)))))
stops setting all left before t judged (Stray path l) is judging wrong =
    subst (FilesJudged setting all) (with_strayed (files_of judged) (string_bytes path) l)
    (judging.goes (strayed (string_bytes path) l) (subst (λ ts. FilesJudged setting ts (strayed (string_bytes path) l)) (sym (behind left before t is)) (wrong (map text_of (reverse left)))))
stops setting all left before t judged Memory is judging wrong = tt

pub ends : (setting : Setting) (all : List Text) (left : List Pair) (judged : List AppFile) → left ≡ [] → Judging setting all left judged → FilesJudged setting all (accepted (files_of judged))
ends setting all left judged none judging =
    subst (FilesJudged setting all) (with_none (files_of judged))
    (judging.goes (accepted []) (subst (λ xs. FilesJudged setting (map text_of (reverse xs)) (accepted [])) (sym none) a.no_more))
