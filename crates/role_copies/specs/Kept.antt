-- What holds of copies, and the file that a request asks for in all of them.
use Rattle.std.specs.Prelude.{◌≡◌, ◌≤◌, ℕ, Bool, true, List, [], ◌∷◌, ◌-◌, map, length, slice_index_or, String, Vec}
use Rattle.std.specs.List.{All, list_all}
use Rattle.std.specs.declared.alloc.Global.{Global}
use Rattle.app_load.specs.declared.app.AppFile.{AppFile}
use Rattle.app_load.specs.Applications.{text_of}
use Rattle.request_map.specs.Routes.{IsRoute}
use Rattle.request_map.specs.declared.routes.Route.{Route}
use Rattle.role_copies.specs.Alike.{are_alike, static_texts, script_paths}

abbrev pub first_of : List (List AppFile) → List AppFile
first_of [] = []
first_of (files ∷ rest) = files

-- the program of a role, by its number from 1
abbrev pub program_at : ℕ → List (List AppFile) → List AppFile
program_at role programs = slice_index_or programs (role - 1) []

-- the programs are alike
abbrev pub all_alike : List (List AppFile) → Bool
all_alike programs = list_all (are_alike (first_of programs)) programs

-- one program or more, all alike, and each has these static files and no others
pub record AreCopies (programs : List (List AppFile)) (statics : List (String Global × Vec ℕ Global)) : Type 0 where
  pub some : 1 ≤ length programs
  pub alike : all_alike programs ≡ true
  pub each : All (λ files. static_texts files ≡ map text_of statics) programs

-- the file that a path names, whichever program is asked
abbrev pub IsRouteOfAll : List (List AppFile) → List (String Global × Vec ℕ Global) → List ℕ → Route → Type 0
IsRouteOfAll programs statics path route = All (λ files. IsRoute (script_paths files) statics path route) programs
