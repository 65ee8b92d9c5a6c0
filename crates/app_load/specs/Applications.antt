-- Which applications and copies are accepted: what is told of the files of one, in byte order of their paths.
use Rattle.std.specs.Prelude.{◌≡◌, ℕ, ◌<◌, ◌≤◌, Bool, true, false, not, nat_lt, List, [], ◌∷◌, length, map, Option, Some, None, ⊤, if◌then◌else◌, String, string_bytes, Vec}
use Rattle.std.specs.List.{list_all, sum_by}
use Rattle.std.specs.List.Sorted.{IsPermutation, IsStrictlySortedBy}
use Rattle.std.specs.Ordering.{nat_cmp}
use Rattle.std.specs.Cmp.Lexicographic.{slice_cmp}
use Rattle.std.specs.declared.alloc.Global.{Global}
use Rattle.less_terms.specs.Paths.{is_path}
use Rattle.php_tree.specs.Functions.{spans_in}
use Rattle.app_load.specs.declared.fault.AppKind.{AppKind}
use Rattle.app_load.specs.declared.fault.AppKind.TheVariants.{Limit}
use Rattle.app_load.specs.declared.fault.LimitName.{LimitName}
use Rattle.app_load.specs.declared.fault.LimitName.TheVariants as limit
use Rattle.app_load.specs.declared.fault.AppFault.{AppFault}
use Rattle.app_load.specs.declared.fault.AppFault.TheVariants as app
use Rattle.app_load.specs.declared.fault.CopyFault.{CopyFault}
use Rattle.app_load.specs.declared.fault.CopyFault.TheVariants as copy
use Rattle.app_load.specs.declared.fault.CopyKind.{CopyKind}
use Rattle.app_load.specs.declared.fault.CopyKind.TheVariants.{BadFile, Placeholder}
use Rattle.app_load.specs.declared.judge.Setting.{Setting}
use Rattle.app_load.specs.declared.judge.Setting.TheVariants.{Application, Copy}
use Rattle.app_load.specs.Files.{Tree, File, is_php}
use Rattle.app_load.specs.Judged.{Judged, good, bad, stray}

-- a path and the bytes of its file
abbrev pub Text : Type 0
Text = List ℕ × List ℕ

abbrev pub text_of : String Global × Vec ℕ Global → Text
text_of pair = (string_bytes pair.0, pair.1.items)

-- the files that were given, in byte order of their paths, of which none stands twice
pub record AreInOrder (given : List (String Global × Vec ℕ Global)) (texts : List Text) : Type 0 where
  pub all : IsPermutation (map text_of given) texts
  pub ascending : IsStrictlySortedBy (slice_cmp nat_cmp) (map (λ t. t.0) texts)

-- ---- limits of the whole

abbrev pub php_length : Text → ℕ
php_length t = if is_php t.0 then length t.1 else 0

abbrev pub static_length : Text → ℕ
static_length t = if is_php t.0 then 0 else length t.1

abbrev pub first_limit : List Text → Option LimitName
first_limit ts =
    if not (list_all (λ t. is_path t.0) ts) then Some limit.Path
    else (if nat_lt 2000 (length ts) then Some limit.Files
    else (if nat_lt 8388608 (sum_by php_length ts) then Some limit.Total
    else (if nat_lt 33554432 (sum_by static_length ts) then Some limit.Static else None)))

-- ---- the files

-- what is told of files: what they are; or the path, line and kind of the first fault; or, of a copy, where a word is out of its place
pub data Outcome : Type 0 where
  accepted : List File → Outcome
  refused : List ℕ → ℕ → AppKind → Outcome
  strayed : List ℕ → ℕ → Outcome

-- with one file before the others
abbrev pub with_file : File → Outcome → Outcome
with_file f (accepted fs) = accepted (f ∷ fs)
with_file f (refused path l k) = refused path l k
with_file f (strayed path l) = strayed path l

pub data FilesJudged (setting : Setting) : List Text → Outcome → Type 0 where
  no_more : FilesJudged setting [] (accepted [])
  static : {path text : List ℕ} {ts : List Text} {o : Outcome} → is_php path ≡ false → FilesJudged setting ts o
      → FilesJudged setting ((path, text) ∷ ts) (with_file (record { path = path; text = text; tree = None }) o)
  php : {path text : List ℕ} {tree : Tree} {ts : List Text} {o : Outcome} → is_php path ≡ true → Judged setting path text (good tree) → FilesJudged setting ts o
      → FilesJudged setting ((path, text) ∷ ts) (with_file (record { path = path; text = text; tree = Some tree }) o)
  php_bad : {path text : List ℕ} {l : ℕ} {k : AppKind} {ts : List Text} → is_php path ≡ true → Judged setting path text (bad l k)
      → FilesJudged setting ((path, text) ∷ ts) (refused path l k)
  php_stray : {path text : List ℕ} {l : ℕ} {ts : List Text} → is_php path ≡ true → Judged setting path text (stray l)
      → FilesJudged setting ((path, text) ∷ ts) (strayed path l)

-- ---- all of it

abbrev pub function_count : Option Tree → ℕ
function_count None = 0
function_count (Some ss) = length (spans_in ss)

-- the functions with a body of all files
abbrev pub functions_of_all : List File → ℕ
functions_of_all fs = sum_by (λ f. function_count f.tree) fs

-- the limits of the whole, then the files, then the count of functions; a limit has no file and no line
pub data IsOutcome (setting : Setting) (ts : List Text) : Outcome → Type 0 where
  past_limit : {n : LimitName} → first_limit ts ≡ Some n → IsOutcome setting ts (refused [] 0 (Limit n))
  bad_file : {path : List ℕ} {l : ℕ} {k : AppKind} → first_limit ts ≡ None → FilesJudged setting ts (refused path l k) → IsOutcome setting ts (refused path l k)
  stray_word : {path : List ℕ} {l : ℕ} → first_limit ts ≡ None → FilesJudged setting ts (strayed path l) → IsOutcome setting ts (strayed path l)
  too_many : {fs : List File} → first_limit ts ≡ None → FilesJudged setting ts (accepted fs) → 20000 < functions_of_all fs
      → IsOutcome setting ts (refused [] 0 (Limit limit.Functions))
  all_good : {fs : List File} → first_limit ts ≡ None → FilesJudged setting ts (accepted fs) → functions_of_all fs ≤ 20000
      → IsOutcome setting ts (accepted fs)

-- the outcome of files that were given
pub record IsOutcomeOf (setting : Setting) (given : List (String Global × Vec ℕ Global)) (o : Outcome) : Type 0 where
  pub texts : List Text
  pub in_order : AreInOrder given texts
  pub told : IsOutcome setting texts o

-- the files of an accepted application
abbrev pub IsApplication : List (String Global × Vec ℕ Global) → List File → Type 0
IsApplication given files = IsOutcomeOf Application given (accepted files)

-- the first fault of an application, or want of memory
abbrev pub IsAppFault : List (String Global × Vec ℕ Global) → AppFault → Type 0
IsAppFault given (app.At path l k) = IsOutcomeOf Application given (refused (string_bytes path) l k)
IsAppFault given app.Memory = ⊤

-- the files of an accepted copy
abbrev pub IsProgram : List (String Global × Vec ℕ Global) → List File → Type 0
IsProgram given files = IsOutcomeOf Copy given (accepted files)

-- every other fault of a copy is that of a bad file
abbrev pub IsCopyFault : List (String Global × Vec ℕ Global) → CopyFault → Type 0
IsCopyFault given (copy.At path l BadFile) = (k : AppKind) × IsOutcomeOf Copy given (refused (string_bytes path) l k)
IsCopyFault given (copy.At path l Placeholder) = IsOutcomeOf Copy given (strayed (string_bytes path) l)
IsCopyFault given copy.Memory = ⊤

-- no path stands twice
abbrev pub IsOnce : List (String Global × Vec ℕ Global) → Type 0
IsOnce given = (texts : List Text) × AreInOrder given texts
