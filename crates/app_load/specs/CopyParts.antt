-- What the parts of a copy have to do with those of its original.
use Rattle.std.specs.Prelude.{◌≡◌, ℕ, List, [], ◌∷◌, Bool, true, false, Option, Some, None}
use Rattle.app_load.specs.Entries.{Entry, file, function}
use Rattle.app_load.specs.Files.{Tree, File}
use Rattle.app_load.specs.Kept.{Keeps}
use Rattle.app_load.specs.Parts.{Part, body, stub, Parts, part_at, parts}
use Rattle.php_tree.specs.Parts.{bodies_in}

-- what stands at each entry
abbrev pub Look : Type 0
Look = Entry → Option Part

-- nothing stands there, or what stood there was removed
abbrev pub IsGone : Option Part → Type 0
IsGone None = Unit {0}
IsGone (Some stub) = Unit {0}
IsGone (Some (body ss)) = ⊥

abbrev pub IsThere : Option Part → Type 0
IsThere None = ⊥
IsThere (Some p) = Unit {0}

-- bodies that stand in a part by their names, or their placeholders, are there
abbrev pub AreThere : Look → List ℕ → List (List ℕ × Tree) → Type 0
AreThere look path [] = Unit {0}
AreThere look path ((name, ss) ∷ bs) = IsThere (look (function path name)) × AreThere look path bs

abbrev pub path_of : Entry → List ℕ
path_of (file path) = path
path_of (function path name) = path

-- The parts of a copy for a kept set. A function inside one that was removed is not there, kept or not.
pub record AreCopyParts (keeps : Keeps) (original copy : Look) : Type 0 where
  -- what is not kept is a placeholder, or not there
  pub gone : (e : Entry) → keeps e ≡ false → IsGone (copy e)
  -- what is kept is as it was; a function, where it is there
  pub files : (path : List ℕ) → keeps (file path) ≡ true → copy (file path) ≡ original (file path)
  pub functions : (path name : List ℕ) → keeps (function path name) ≡ true → IsThere (copy (function path name)) → copy (function path name) ≡ original (function path name)
  -- the functions that stand in a part are there
  pub declared : (e : Entry) (ss : Tree) → copy e ≡ Some (body ss) → AreThere copy (path_of e) (bodies_in ss)

-- no entry stands twice
abbrev pub StandOnce : Parts → Type 0
StandOnce [] = Unit {0}
StandOnce ((e, p) ∷ ps) = (part_at ps e ≡ None) × StandOnce ps

-- the paths of all PHP files
abbrev pub paths_of : Parts → List (List ℕ)
paths_of [] = []
paths_of ((file path, p) ∷ ps) = path ∷ paths_of ps
paths_of ((function path name, p) ∷ ps) = paths_of ps
