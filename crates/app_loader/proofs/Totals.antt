-- What is told of all files together.
use Rattle.std.proofs.Common.{◌≡◌, ℕ, ◌<◌, ◌≤◌, Bool, true, false, List, [], ◌∷◌, map, nat_lt, Option, Some, None, refl, sym, ap, ◌∙◌, subst, arith, String, string_bytes, Vec}
use Rattle.std.specs.Prelude.{⊤}
use Rattle.std.specs.List.{All}
use Rattle.std.specs.List.Sorted.{IsStrictlySortedBy}
use Rattle.std.specs.Ordering.{nat_cmp}
use Rattle.std.specs.Cmp.Lexicographic.{slice_cmp}
use Rattle.std.specs.declared.alloc.Global.{Global}
use Rattle.std.proofs.lemmas.Bool.Decides.{nat_tests}
use Rattle.app_load.specs.declared.app.AppFile.{AppFile}
use Rattle.app_load.specs.declared.fault.AppKind.{AppKind}
use Rattle.app_load.specs.declared.fault.AppKind.TheVariants as kind
use Rattle.app_load.specs.declared.fault.LimitName.{LimitName}
use Rattle.app_load.specs.declared.fault.LimitName.TheVariants as limit
use Rattle.app_load.specs.declared.judge.Setting.{Setting}
use Rattle.app_load.specs.declared.judge.Setting.TheVariants.{Application, Copy}
use Rattle.app_load.specs.Files.{File, file_of, files_of}
use Rattle.app_load.specs.Judged.{Verdict, good, bad, stray, Judged}
use Rattle.app_load.specs.Judged as j
use Rattle.app_load.specs.Applications as a
use Rattle.app_load.specs.Applications.{Text, text_of, AreInOrder, first_limit, Outcome, accepted, refused, strayed, with_file, FilesJudged, functions_of_all, IsOutcome, IsOutcomeOf}
use Rattle.app_files.specs.FileSets.{IsWhole, AreWhole, path_bytes}
use Rattle.app_loader.specs.declared.fault.LoadFault.{LoadFault}
use Rattle.app_loader.specs.declared.fault.LoadFault.TheVariants.{At, Stray, Memory}
use Rattle.app_loader.specs.Loading.{AreRefused, IsLoadFault}

abbrev Pair : Type 0
Pair = String Global × Vec ℕ Global

outcome : (setting : Setting) (given sorted : List Pair) (o : Outcome) → AreInOrder given (map text_of sorted) → IsOutcome setting (map text_of sorted) o → IsOutcomeOf setting given o
outcome setting given sorted o order told = record { texts = map text_of sorted; in_order = order; told = told }

-- a limit has no file
without_file : (setting : Setting) (given sorted : List Pair) (n : LimitName) (path : String Global) → AreInOrder given (map text_of sorted) → string_bytes path ≡ []
    → IsOutcome setting (map text_of sorted) (refused [] 0 (kind.Limit n)) → IsLoadFault setting given (At path 0 (kind.Limit n))
without_file setting given sorted n path order empty told =
    subst (λ p. IsOutcomeOf setting given (refused p 0 (kind.Limit n))) (sym empty) (outcome setting given sorted (refused [] 0 (kind.Limit n)) order told)

pub limit_refused : (setting : Setting) (given sorted : List Pair) (n : LimitName) (path : String Global) → AreInOrder given (map text_of sorted)
    → Some n ≡ first_limit (map text_of sorted) → string_bytes path ≡ [] → IsLoadFault setting given (At path 0 (kind.Limit n))
limit_refused setting given sorted n path order first empty = without_file setting given sorted n path order empty (a.past_limit (sym first))

pub files_refused : (setting : Setting) (given sorted : List Pair) (e : LoadFault) → AreInOrder given (map text_of sorted) → None ≡ first_limit (map text_of sorted)
    → AreRefused setting (map text_of sorted) e → IsLoadFault setting given e
files_refused setting given sorted (At path l k) order none told = outcome setting given sorted (refused (string_bytes path) l k) order (a.bad_file (sym none) told)
files_refused setting given sorted (Stray path l) order none told = outcome setting given sorted (strayed (string_bytes path) l) order (a.stray_word (sym none) told)
files_refused setting given sorted Memory order none told = tt

above : (n : ℕ) → true ≡ nat_lt 20000 n → 20000 < n
above n e = grind (arith, nat_tests)

within : (n : ℕ) → false ≡ nat_lt 20000 n → n ≤ 20000
within n e = grind (arith, nat_tests)

pub too_many_refused : (setting : Setting) (given sorted : List Pair) (judged : List AppFile) (path : String Global) → AreInOrder given (map text_of sorted)
    → None ≡ first_limit (map text_of sorted) → FilesJudged setting (map text_of sorted) (accepted (files_of judged)) → true ≡ nat_lt 20000 (functions_of_all (files_of judged))
    → string_bytes path ≡ [] → IsLoadFault setting given (At path 0 (kind.Limit limit.Functions))
too_many_refused setting given sorted judged path order none told many empty =
    without_file setting given sorted limit.Functions path order empty (a.too_many (sym none) told (above (functions_of_all (files_of judged)) many))

pub all_accepted : (setting : Setting) (given sorted : List Pair) (judged : List AppFile) → AreInOrder given (map text_of sorted) → None ≡ first_limit (map text_of sorted)
    → FilesJudged setting (map text_of sorted) (accepted (files_of judged)) → false ≡ nat_lt 20000 (functions_of_all (files_of judged))
    → IsOutcomeOf setting given (accepted (files_of judged))
all_accepted setting given sorted judged order none told few =
    outcome setting given sorted (accepted (files_of judged)) order (a.all_good (sym none) told (within (functions_of_all (files_of judged)) few))

-- ---- paths stay

abbrev HasPaths : List Text → Outcome → Type 0
HasPaths ts (accepted fs) = map (λ (f : File). f.path) fs ≡ map (λ (t : Text). t.0) ts
HasPaths ts (refused path l k) = ⊤
HasPaths ts (strayed path l) = ⊤

with_path : (f : File) (t : Text) (ts : List Text) (o : Outcome) → f.path ≡ t.0 → HasPaths ts o → HasPaths (t ∷ ts) (with_file f o)
with_path f t ts (accepted fs) e has = ap (λ p. p ∷ map (λ (f : File). f.path) fs) e ∙ ap (λ ps. t.0 ∷ ps) has
with_path f t ts (refused path l k) e has = tt
with_path f t ts (strayed path l) e has = tt

paths_stay : (setting : Setting) (ts : List Text) (o : Outcome) → FilesJudged setting ts o → HasPaths ts o
paths_stay setting _ _ a.no_more = refl
paths_stay setting _ _ (a.static {path = path} {text = text} {ts = ts} {o = o} is rest) =
    with_path (record { path = path; text = text; tree = None }) (path, text) ts o refl (paths_stay setting ts o rest)
paths_stay setting _ _ (a.php {path = path} {text = text} {tree = tree} {ts = ts} {o = o} is told rest) =
    with_path (record { path = path; text = text; tree = Some tree }) (path, text) ts o refl (paths_stay setting ts o rest)
paths_stay setting _ _ (a.php_bad is told) = tt
paths_stay setting _ _ (a.php_stray is told) = tt

same_paths : (fs : List AppFile) → map (λ (f : File). f.path) (files_of fs) ≡ map path_bytes fs
same_paths [] = refl
same_paths (f ∷ fs) = ap (λ ps. path_bytes f ∷ ps) (same_paths fs)

pub all_whole : (setting : Setting) (given sorted : List Pair) (judged : List AppFile) → AreInOrder given (map text_of sorted)
    → FilesJudged setting (map text_of sorted) (accepted (files_of judged)) → All IsWhole judged → AreWhole judged
all_whole setting given sorted judged order told whole = record {
  each = whole;
  ascending = subst (IsStrictlySortedBy (slice_cmp nat_cmp)) (sym (paths_stay setting (map text_of sorted) (accepted (files_of judged)) told) ∙ same_paths judged) order.ascending;
}

-- ---- no word of an application is out of its place

abbrev IsStray : Verdict → Type 0
IsStray (good tree) = ⊥
IsStray (bad l k) = ⊥
IsStray (stray l) = ⊤

abbrev AreStrayed : Outcome → Type 0
AreStrayed (accepted fs) = ⊥
AreStrayed (refused path l k) = ⊥
AreStrayed (strayed path l) = ⊤

no_stray : (setting : Setting) (path text : List ℕ) (v : Verdict) → setting ≡ Application → Judged setting path text v → IsStray v → ⊥
no_stray setting path text _ is (j.too_long h) strays = strays
no_stray setting path text _ is (j.no_tokens h i) strays = strays
no_stray setting path text _ is (j.reserved e h i first) strays = strays
no_stray setting path text _ is (j.no_tree h i) strays = strays
no_stray setting path text _ is (j.out_of_place e h i first) strays = cc
no_stray setting path text _ is (j.twice h first) strays = strays
no_stray setting path text _ is (j.leaving h once first) strays = strays
no_stray setting path text _ is (j.fine h once none) strays = strays

behind : (f : File) (o : Outcome) → AreStrayed (with_file f o) → AreStrayed o
behind f (accepted fs) strays = strays
behind f (refused path l k) strays = strays
behind f (strayed path l) strays = strays

none_stray : (setting : Setting) (ts : List Text) (o : Outcome) → setting ≡ Application → FilesJudged setting ts o → AreStrayed o → ⊥
none_stray setting _ _ is a.no_more strays = strays
none_stray setting _ _ is (a.static {path = path} {text = text} {ts = ts} {o = o} e rest) strays =
    none_stray setting ts o is rest (behind (record { path = path; text = text; tree = None }) o strays)
none_stray setting _ _ is (a.php {path = path} {text = text} {tree = tree} {ts = ts} {o = o} e told rest) strays =
    none_stray setting ts o is rest (behind (record { path = path; text = text; tree = Some tree }) o strays)
none_stray setting _ _ is (a.php_bad e told) strays = strays
none_stray setting _ _ is (a.php_stray {path = path} {text = text} {l = l} e told) strays = no_stray setting path text (stray l) is told tt

told_stray : (setting : Setting) (ts : List Text) (o : Outcome) → setting ≡ Application → IsOutcome setting ts o → AreStrayed o → ⊥
told_stray setting ts _ is (a.past_limit first) strays = strays
told_stray setting ts _ is (a.bad_file none told) strays = strays
told_stray setting ts _ is (a.stray_word {path = path} {l = l} none told) strays = none_stray setting ts (strayed path l) is told tt
told_stray setting ts _ is (a.too_many none told many) strays = strays
told_stray setting ts _ is (a.all_good none told few) strays = strays

pub none_strays : (given : List Pair) (path : String Global) (l : ℕ) → IsLoadFault Application given (Stray path l) → ⊥
none_strays given path l told = told_stray Application told.texts (strayed (string_bytes path) l) refl told.told tt
