-- What is kept for a role: a set of entries, as a test on them.
use Rattle.std.specs.Prelude.{ℕ, Bool, true, ◌||◌, List, ◌++◌, codes}
use Rattle.std.specs.List.{list_any}
use Rattle.std.specs.Str.{bytes_eq}
use Rattle.app_load.specs.Entries.{Entry, file, function, is_same}
use Rattle.app_load.specs.declared.entry.Level.{Level}
use Rattle.app_load.specs.declared.entry.Level.TheVariants as level

-- the entries that are kept
abbrev pub Keeps : Type 0
Keeps = Entry → Bool

abbrev pub keeps_all : Keeps
keeps_all e = true

-- A text of a keep list names entries: `PATH` the file, `PATH#NAME` the function, `PATH#*` all functions of the file.
abbrev pub is_named_by : List ℕ → Entry → Bool
is_named_by text (file path) = bytes_eq text path
is_named_by text (function path name) = bytes_eq text (path ++ (codes "#" ++ name)) || bytes_eq text (path ++ codes "#*")

-- recorded, or named by a text of the keep list
abbrev pub is_listed : List Entry → List (List ℕ) → Entry → Bool
is_listed recorded texts e = list_any (λ d. is_same d e) recorded || list_any (λ t. is_named_by t e) texts

-- A kept function does not keep its file. At the level of files a kept file keeps its functions.
abbrev pub kept : List Entry → List (List ℕ) → Level → Keeps
kept recorded texts level.Function e = is_listed recorded texts e
kept recorded texts level.File (file path) = is_listed recorded texts (file path)
kept recorded texts level.File (function path name) = is_listed recorded texts (function path name) || is_listed recorded texts (file path)
