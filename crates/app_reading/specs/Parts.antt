-- Which files below a folder are those of an application.
use Rattle.std.specs.Prelude.{◌≡◌, ◌↔◌, ℕ, ◌==◌, Bool, true, not, List, [], ◌∷◌, ◌++◌, length, drop, nat_eq, Option, None, Some, if◌then◌else◌}
use Rattle.std.specs.List.{list_all, slice_split, starts_with, Contains}
use Rattle.std.specs.List.Sorted.{IsStrictlySortedBy}
use Rattle.std.specs.Ordering.{nat_cmp}
use Rattle.std.specs.Cmp.Lexicographic.{slice_cmp}
use Rattle.less_terms.specs.Paths.{is_slash}

-- what stands between two slashes does not begin with a dot
abbrev pub is_visible : List ℕ → Bool
is_visible [] = true
is_visible (first ∷ rest) = not (first == 46)

-- a path is one of an application: no segment begins with a dot
abbrev pub is_part : List ℕ → Bool
is_part path = list_all is_visible (slice_split is_slash path)

-- the whole path of a path below a folder
abbrev pub whole : List ℕ → List ℕ → List ℕ
whole below path = below ++ 47 ∷ path

-- The paths of an application's files, where `listed` has the whole paths of a folder: in byte order, none twice, each cut of
-- the folder's path.
pub record AreParts (below : List ℕ) (listed paths : List (List ℕ)) : Type 0 where
  pub ascending : IsStrictlySortedBy (slice_cmp nat_cmp) paths
  pub exact : (path : List ℕ) → Contains paths path ↔ ((is_part path ≡ true) × Contains listed (whole below path))

-- the rest of a path that begins with `front`
abbrev pub rest_after : List ℕ → List ℕ → Option (List ℕ)
rest_after front path = if starts_with nat_eq path front then Some (drop (length front) path) else None

abbrev pub visible_or_none : Option (List ℕ) → Option (List ℕ)
visible_or_none None = None
visible_or_none (Some path) = if is_part path then Some path else None

-- the rest of a path that begins with `front`, where the rest is a path of an application
abbrev pub part_of : List ℕ → List ℕ → Option (List ℕ)
part_of front path = visible_or_none (rest_after front path)
