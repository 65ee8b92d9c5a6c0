-- The files of a folder: a map from paths to bytes, in byte order of the paths.
use Rattle.std.specs.Prelude.{◌≡◌, ℕ, ◌⊎◌, Bool, List, [], ◌∷◌, ◌++◌, take, filter, nat_eq}
use Rattle.std.specs.List.{starts_with}
use Rattle.std.specs.Ordering.{nat_cmp}
use Rattle.std.specs.Cmp.Lexicographic.{slice_cmp}
use Rattle.std.specs.FinMap as fin

-- paths with their bytes. `fin.get`, `fin.insert`, `fin.remove` and `fin.entries` read and change them
abbrev pub Files : Type 0
Files = fin.FinMap (slice_cmp nat_cmp) (List ℕ)

-- the path begins with `below` and a slash
abbrev pub is_below : List ℕ → List ℕ → Bool
is_below below path = starts_with nat_eq path (below ++ 47 ∷ [])

-- the whole paths of the files below a folder's path, in byte order
abbrev pub paths_below : List ℕ → Files → List (List ℕ)
paths_below below files = filter (is_below below) (fin.keys files)

-- the files are as before, or the path holds a front part of the bytes
abbrev pub IsPartlyWritten : List ℕ → List ℕ → Files → Files → Type 0
IsPartlyWritten path bytes old new = (new ≡ old) ⊎ ((n : ℕ) × (new ≡ fin.insert old path (take n bytes)))

-- the files are as before, or the path is absent
abbrev pub IsPartlyRemoved : List ℕ → Files → Files → Type 0
IsPartlyRemoved path old new = (new ≡ old) ⊎ (new ≡ fin.remove old path)
