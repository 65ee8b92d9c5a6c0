-- What each step of judging a text answers in place of its result. Want of memory says nothing.
use Rattle.std.specs.Prelude.{◌≡◌, ℕ, ◌≤◌, List, length, Option, Some, None, ⊤}
use Rattle.php_lexer.specs.Marks.{Mark}
use Rattle.php_tree.specs.declared.file.FileTree.{FileTree}
use Rattle.php_parser.specs.Verdict.{IsFileTree}
use Rattle.app_load.specs.declared.judge.Setting.{Setting}
use Rattle.app_load.specs.declared.judge.FileFault.{FileFault}
use Rattle.app_load.specs.declared.judge.FileFault.TheVariants.{At, Stray, Memory}
use Rattle.app_load.specs.Twice.{first_twice, first_leaving}
use Rattle.app_load.specs.Judged.{Verdict, bad, stray, Judged, file_findings, IsRead, IsParsed}

-- what a fault tells; `None` where memory wanted
abbrev pub told : FileFault → Option Verdict
told (At line k) = Some (bad line k)
told (Stray line) = Some (stray line)
told Memory = None

abbrev pub IsToldOf : (Verdict → Type 0) → Option Verdict → Type 0
IsToldOf P None = ⊤
IsToldOf P (Some v) = P v

-- a text is refused before it is parsed, whatever its path
abbrev pub IsReadFault : Setting → List ℕ → FileFault → Type 0
IsReadFault setting text fault = IsToldOf (λ v. (path : List ℕ) → Judged setting path text v) (told fault)

-- the tokens have no tree
abbrev pub IsTreeFault : List ℕ → List Mark → FileFault → Type 0
IsTreeFault text ms fault = IsToldOf (λ v. (setting : Setting) (path : List ℕ) → IsRead setting text ms → Judged setting path text v) (told fault)

-- a word of a copy is out of its place
abbrev pub IsStrayFault : Setting → List ℕ → List ℕ → List Mark → FileTree → FileFault → Type 0
IsStrayFault setting path text ms tree fault = IsToldOf (λ v. IsRead setting text ms → IsFileTree ms tree → Judged setting path text v) (told fault)

-- no name is declared twice, and no jump leaves more than there is around it
pub record PassesRules (tree : FileTree) : Type 0 where
  pub once : first_twice (file_findings tree) ≡ None
  pub within : first_leaving (file_findings tree) ≡ None

abbrev pub IsRuleFault : FileTree → FileFault → Type 0
IsRuleFault tree fault = IsToldOf (λ v. (setting : Setting) (path text : List ℕ) (ms : List Mark) → IsParsed setting path text ms tree → Judged setting path text v) (told fault)

-- the text is refused
abbrev pub IsFileFault : Setting → List ℕ → List ℕ → FileFault → Type 0
IsFileFault setting path text fault = IsToldOf (Judged setting path text) (told fault)
