-- When the files of two programs are alike, and what is told of files: their scripts and their static files.
use Rattle.std.specs.Prelude.{Bool, true, false, not, ◌&&◌, ◌||◌, List, [], ◌∷◌, map, String, string_bytes}
use Rattle.std.specs.List.{filter}
use Rattle.std.specs.Str.{bytes_eq}
use Rattle.std.specs.declared.alloc.Global.{Global}
use Rattle.app_load.specs.declared.app.AppFile.{AppFile}
use Rattle.app_load.specs.Applications.{Text}
use Rattle.app_load.specs.Files.{is_php}

abbrev pub is_script : AppFile → Bool
is_script file = is_php (string_bytes file.path)

-- the paths of the PHP files
abbrev pub script_paths : List AppFile → List (String Global)
script_paths files = map (λ file. file.path) (filter is_script files)

abbrev pub is_static : AppFile → Bool
is_static file = not (is_script file)

abbrev pub text_in : AppFile → Text
text_in file = (string_bytes file.path, file.text.items)

-- the other files, by their paths and bytes
abbrev pub static_texts : List AppFile → List Text
static_texts files = map text_in (filter is_static files)

-- ---- alike

-- one path, and the same bytes where it is not the path of a PHP file
abbrev pub is_alike : AppFile → AppFile → Bool
is_alike file other =
    bytes_eq (string_bytes file.path) (string_bytes other.path) && (is_script file || bytes_eq file.text.items other.text.items)

-- the same of all files, one after the other
abbrev pub are_alike : List AppFile → List AppFile → Bool
are_alike [] [] = true
are_alike [] (other ∷ others) = false
are_alike (file ∷ files) [] = false
are_alike (file ∷ files) (other ∷ others) = is_alike file other && are_alike files others
