-- Paths: their segments, and the file that an include names.
use Rattle.std.specs.Prelude.{ℕ, List, [], ◌∷◌, ◌++◌, Bool, true, false, ◌||◌, ◌==◌, codes, nat_eq, drop, if◌then◌else◌}
use Rattle.std.specs.List.{starts_with}
use Rattle.std.specs.declared.option.Option.{Option}
use Rattle.std.specs.declared.option.Option.TheVariants.{Some, None}
use Rattle.std.specs.Str.{bytes_eq}
use Rattle.php_meaning.specs.World.{World, path_of, is_among}

-- a byte at the front of the first segment, or a `/`
abbrev pub with_byte : ℕ → List (List ℕ) → List (List ℕ)
with_byte b [] = (b ∷ []) ∷ []
with_byte b (s ∷ ss) = if b == 47 then [] ∷ s ∷ ss else (b ∷ s) ∷ ss

-- the parts of a text between its `/`
abbrev pub segments : List ℕ → List (List ℕ)
segments [] = [] ∷ []
segments (b ∷ t) = with_byte b (segments t)

abbrev pub all_but_last : List (List ℕ) → List (List ℕ)
all_but_last [] = []
all_but_last (s ∷ []) = []
all_but_last (s ∷ t ∷ ss) = s ∷ all_but_last (t ∷ ss)

abbrev pub joined_path : List (List ℕ) → List ℕ
joined_path [] = []
joined_path (s ∷ []) = s
joined_path (s ∷ t ∷ ss) = s ++ 47 ∷ joined_path (t ∷ ss)

-- the folder of a file
abbrev pub folder_of : List ℕ → List (List ℕ)
folder_of path = all_but_last (segments path)

-- the folder above, which the application's own does not have
abbrev pub above : List (List ℕ) → Option (List (List ℕ))
above [] = None
above (s ∷ ss) = Some (all_but_last (s ∷ ss))

-- one segment further: `.` and `..` are resolved, and an empty segment names no file
abbrev pub further : List ℕ → List (List ℕ) → Option (List (List ℕ))
further s folder =
    if bytes_eq s [] then None
    else if bytes_eq s (codes ".") then Some folder
    else if bytes_eq s (codes "..") then above folder
    else Some (folder ++ s ∷ [])

abbrev pub further_from : List ℕ → Option (List (List ℕ)) → Option (List (List ℕ))
further_from s None = None
further_from s (Some folder) = further s folder

abbrev pub resolved_from : List (List ℕ) → Option (List (List ℕ)) → Option (List (List ℕ))
resolved_from [] folder = folder
resolved_from (s ∷ ss) folder = resolved_from ss (further_from s folder)

-- a path from a folder on
abbrev pub resolved : List (List ℕ) → List (List ℕ) → Option (List (List ℕ))
resolved folder ss = resolved_from ss (Some folder)

-- the first path that is a file's
abbrev pub file_at : List (List ℕ) → Option (List (List ℕ)) → Option (List ℕ)
file_at files None = None
file_at files (Some ss) = if is_among (joined_path ss) files then Some (joined_path ss) else None

abbrev pub or_file : Option (List ℕ) → Option (List ℕ) → Option (List ℕ)
or_file (Some path) other = Some path
or_file None other = other

abbrev pub is_whole : List ℕ → Bool
is_whole t = starts_with nat_eq t (codes "/app/")

abbrev pub is_from_script : List ℕ → Bool
is_from_script t = starts_with nat_eq t (codes "./") || starts_with nat_eq t (codes "../")

-- the file that an include names: from the application's folder, from the script's, or from that of the file that includes
abbrev pub file_named : List ℕ → World → Option (List ℕ)
file_named t w =
    if is_whole t then file_at w.files (resolved [] (segments (drop 5 t)))
    else if is_from_script t then file_at w.files (resolved (folder_of w.script) (segments t))
    else or_file (file_at w.files (resolved (folder_of w.script) (segments t))) (file_at w.files (resolved (folder_of (path_of w.context.owner)) (segments t)))
