-- How an entry is looked for among the files of an application.
use Rattle.std.specs.Prelude.{◌≡◌, ℕ, List, [], ◌∷◌, Option, Some, None, if◌then◌else◌}
use Rattle.std.specs.Str.{bytes_eq}
use Rattle.php_tree.specs.declared.file.FunSpan.{FunSpan}
use Rattle.app_load.specs.declared.app.AppFile.{AppFile}
use Rattle.app_load.specs.Entries.{Entry, file, function}
use Rattle.app_files.specs.FileSets.{IsWhole, AreWhole, path_bytes}
use Rattle.app_entries.specs.Ordinals.{file_entries, ordinal_in, ordinal_of}

-- the path of an entry's file
abbrev pub path_of : Entry → List ℕ
path_of (file path) = path
path_of (function path name) = path

-- the ordinal of the first function of a name
abbrev pub function_ordinal : List FunSpan → List ℕ → Option ℕ
function_ordinal [] name = None
function_ordinal (f ∷ fs) name = if bytes_eq f.name name then Some f.ordinal else function_ordinal fs name

-- no file has the path
abbrev pub IsNowhere : List ℕ → List AppFile → Type 0
IsNowhere path files = (e : Entry) → path_of e ≡ path → ordinal_of files e ≡ None

-- the file of the path: all entries of that path are its own
pub record IsFileAt (path : List ℕ) (files : List AppFile) (f : AppFile) : Type 0 where
  pub same_path : path_bytes f ≡ path
  pub whole : IsWhole f
  pub own : (e : Entry) → path_of e ≡ path → ordinal_of files e ≡ ordinal_in (file_entries f) e

-- the files that are left of a search have all entries of the path
pub record IsLeft (path : List ℕ) (files left : List AppFile) : Type 0 where
  pub whole : AreWhole left
  pub own : (e : Entry) → path_of e ≡ path → ordinal_of files e ≡ ordinal_of left e
