-- How far the texts of an application were read.
use Rattle.std.specs.Prelude.{◌≡◌, ℕ, ◌+◌, ◌<◌, ◌⊎◌, Bool, true, false, not, nat_lt, List, [], ◌∷◌, ◌++◌, length, map, Option, Some, None, ⊤, if◌then◌else◌, String, Vec}
use Rattle.std.specs.List.{list_all, sum_by, filter_map, cons_option}
use Rattle.std.specs.Option.{option_map}
use Rattle.std.specs.FinMap as fin
use Rattle.std.specs.declared.alloc.Global.{Global}
use Rattle.less_terms.specs.Paths.{is_path}
use Rattle.less_outside.specs.declared.fault.FolderFault.{FolderFault}
use Rattle.less_outside.specs.declared.fault.FolderFault.TheVariants as folder
use Rattle.less_outside.specs.Files.{Files}
use Rattle.app_load.specs.declared.fault.LimitName.{LimitName}
use Rattle.app_load.specs.declared.fault.LimitName.TheVariants as limit
use Rattle.app_load.specs.Files.{is_php}
use Rattle.app_load.specs.Applications.{Text, text_of, php_length, static_length}
use Rattle.app_reading.specs.declared.fault.TextsFault.{TextsFault}
use Rattle.app_reading.specs.declared.fault.TextsFault.TheVariants.{Limit, ReadFault, Memory}
use Rattle.app_reading.specs.declared.texts.Reading.{Reading}
use Rattle.app_reading.specs.Parts.{whole}

-- what a fault of the folder is to the texts
abbrev pub fault_of : FolderFault → TextsFault
fault_of folder.Failed = ReadFault
fault_of folder.Memory = Memory

-- the text at a path, where something stands there
abbrev pub text_there : List ℕ → Option (List ℕ) → Option Text
text_there path there = option_map (λ bytes. (path, bytes)) there

abbrev pub text_in : List ℕ → Files → List ℕ → Option Text
text_in below files path = text_there path (fin.get files (whole below path))

-- the texts at some paths below a folder's path
abbrev pub texts_in : List ℕ → Files → List (List ℕ) → List Text
texts_in below files paths = filter_map (text_in below files) paths

-- with the text at one more path, where something stands there
abbrev pub with_text : List Text → Option Text → List Text
with_text seen t = seen ++ cons_option t []

-- the first limit of the whole that paths alone pass
abbrev pub path_limit : List (List ℕ) → Option LimitName
path_limit paths = if not (list_all is_path paths) then Some limit.Path else (if nat_lt 2000 (length paths) then Some limit.Files else None)

-- how many bytes may still be read at a path
abbrev pub room : Reading → List ℕ → ℕ
room reading path = if is_php path then reading.php_left else reading.static_left

-- so many bytes are no longer to be read at a path
pub record IsSpent (path : List ℕ) (len : ℕ) (old new : Reading) : Type 0 where
  pub php : (if is_php path then len else 0) + new.php_left ≡ old.php_left
  pub others : (if is_php path then 0 else len) + new.static_left ≡ old.static_left
  pub passes : new.passes_static ≡ old.passes_static
  pub texts : new.texts.items ≡ old.texts.items

-- Files that are no PHP files passed their limit; or all texts were kept, and so many bytes may still be read.
abbrev pub AreKept : Bool → ℕ → List (String Global × Vec ℕ Global) → List Text → Type 0
AreKept true left kept seen = 33554432 < sum_by static_length seen
AreKept false left kept seen = (map text_of kept ≡ seen) × (sum_by static_length seen + left ≡ 33554432)

-- these texts were read
pub record HasRead (seen : List Text) (reading : Reading) : Type 0 where
  pub php : sum_by php_length seen + reading.php_left ≡ 8388608
  pub kept : AreKept reading.passes_static reading.static_left reading.texts.items seen

-- these texts pass the limit of all PHP files
abbrev pub PassesTotal : List Text → TextsFault → Type 0
PassesTotal ts (Limit name) = (name ≡ limit.Total) × (8388608 < sum_by php_length ts)
PassesTotal ts ReadFault = ⊤
PassesTotal ts Memory = ⊤

-- the paths of texts
abbrev pub paths_of : List (String Global × Vec ℕ Global) → List (List ℕ)
paths_of kept = map (λ t. t.0) (map text_of kept)

-- a path was added, or none
abbrev pub Adds : List ℕ → List (List ℕ) → List (List ℕ) → Type 0
Adds path old new = (new ≡ old) ⊎ (new ≡ old ++ path ∷ [])
