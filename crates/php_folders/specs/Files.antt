-- Files by number, and where an include stands.
use denote.Ref.{Bor}
use Rattle.std.specs.Prelude.{◌≡◌, ℕ, List, [], ◌∷◌, ◌++◌, Option, Some, None, slice_get}
use Rattle.php_meaning.specs.World.{World, path_of}

abbrev pub part_at : Bor (List ℕ) → List ℕ
part_at part = part.now

-- segments, each with a `/` before it
abbrev pub slashed : List (List ℕ) → List ℕ
slashed [] = []
slashed (s ∷ ss) = 47 ∷ s ++ slashed ss

-- a number is that of a path
pub record IsNumberOf (files : List (List ℕ)) (expected : Option (List ℕ)) (n : ℕ) : Type 0 where
  pub path : List ℕ
  pub place : slice_get files n ≡ Some path
  pub is : expected ≡ Some path

-- a file's number, where there is a file
abbrev pub IsFile : List (List ℕ) → Option (List ℕ) → Option ℕ → Type 0
IsFile files expected None = expected ≡ None
IsFile files expected (Some n) = IsNumberOf files expected n

-- a world with these files and this script, in which the code of a file at a path runs
pub record StandsIn (files : List (List ℕ)) (script path : List ℕ) (w : World) : Type 0 where
  pub files_are : w.files ≡ files
  pub script_is : w.script ≡ script
  pub path_is : path_of w.context.owner ≡ path
