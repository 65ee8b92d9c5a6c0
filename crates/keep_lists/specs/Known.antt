-- Which texts of keep lists name something of an application, and the first that names nothing.
use Rattle.std.specs.Prelude.{ℕ, Bool, ◌||◌, List, [], ◌∷◌, ◌++◌, codes, Option, None, Some, if◌then◌else◌}
use Rattle.std.specs.List.{list_any}
use Rattle.std.specs.Str.{bytes_eq}
use Rattle.std.specs.declared.result.Result.TheVariants.{Ok, Err}
use Rattle.app_load.specs.Entries.{Entry, file, function}
use Rattle.role_routing.specs.Files.{Judged, unknown_entry}

-- `PATH` names a PHP file, `PATH#*` all its functions, `PATH#NAME` one of them
abbrev pub names_entry : List ℕ → Entry → Bool
names_entry text (file path) = bytes_eq (path ++ codes "#*") text || bytes_eq path text
names_entry text (function path name) = bytes_eq (path ++ (codes "#" ++ name)) text

abbrev pub names_file : List ℕ → List ℕ → Bool
names_file text path = bytes_eq path text

-- a text names an entry, or a static file by its path
abbrev pub names_any : List Entry → List (List ℕ) → List ℕ → Bool
names_any entries statics text = list_any (names_file text) statics || list_any (names_entry text) entries

-- the first text of a list that names nothing
abbrev pub unknown_in : (List ℕ → Bool) → List (List ℕ) → Option (List ℕ)
unknown_in known [] = None
unknown_in known (text ∷ texts) = if known text then unknown_in known texts else Some text

abbrev pub or_else : Option (List ℕ) → Option (List ℕ) → Option (List ℕ)
or_else None other = other
or_else (Some text) other = Some text

-- the same of all keep lists, in their order
abbrev pub unknown_among : (List ℕ → Bool) → List (ℕ × List (List ℕ)) → Option (List ℕ)
unknown_among known [] = None
unknown_among known (k ∷ ks) = or_else (unknown_in known k.1) (unknown_among known ks)

-- keep lists pass where each text names something; else the first that does not is told
abbrev pub judged : Option (List ℕ) → Judged (Unit {0})
judged None = Ok tt
judged (Some text) = Err (unknown_entry text)

-- what the keep lists of roles come to, with an application of these entries and static files
abbrev pub keep_judged : List Entry → List (List ℕ) → List (ℕ × List (List ℕ)) → Judged (Unit {0})
keep_judged entries statics keep = judged (unknown_among (names_any entries statics) keep)
