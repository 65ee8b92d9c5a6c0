-- What loading answers where it refuses files, of an application or of a copy.
use Rattle.std.specs.Prelude.{◌≡◌, ℕ, List, [], ◌∷◌, ⊤, String, string_bytes, Vec}
use Rattle.std.specs.declared.alloc.Global.{Global}
use Rattle.app_load.specs.declared.judge.Setting.{Setting}
use Rattle.app_load.specs.Files.{File}
use Rattle.app_load.specs.Applications.{Text, Outcome, accepted, refused, strayed, with_file, FilesJudged, IsOutcomeOf}
use Rattle.app_loader.specs.declared.fault.LoadFault.{LoadFault}
use Rattle.app_loader.specs.declared.fault.LoadFault.TheVariants.{At, Stray, Memory}

-- some files before what is told of the others
abbrev pub with_files : List File → Outcome → Outcome
with_files [] o = o
with_files (f ∷ fs) o = with_file f (with_files fs o)

-- a file is accepted: what is told of more files is told of them with this one before them
abbrev pub IsGood : Setting → Text → File → Type 0
IsGood setting t f = (ts : List Text) (o : Outcome) → FilesJudged setting ts o → FilesJudged setting (t ∷ ts) (with_file f o)

-- what is told of files; want of memory says nothing
abbrev pub AreRefused : Setting → List Text → LoadFault → Type 0
AreRefused setting ts (At file line kind) = FilesJudged setting ts (refused (string_bytes file) line kind)
AreRefused setting ts (Stray file line) = FilesJudged setting ts (strayed (string_bytes file) line)
AreRefused setting ts Memory = ⊤

-- a file is refused, whatever comes after it
abbrev pub IsBad : Setting → Text → LoadFault → Type 0
IsBad setting t fault = (ts : List Text) → AreRefused setting (t ∷ ts) fault

-- what is told of files that were given
abbrev pub IsLoadFault : Setting → List (String Global × Vec ℕ Global) → LoadFault → Type 0
IsLoadFault setting given (At file line kind) = IsOutcomeOf setting given (refused (string_bytes file) line kind)
IsLoadFault setting given (Stray file line) = IsOutcomeOf setting given (strayed (string_bytes file) line)
IsLoadFault setting given Memory = ⊤
