-- Lists of things with names, in the order in which they came.
use Rattle.std.specs.Prelude.{ℕ, List, [], ◌∷◌, Option, Some, None, if◌then◌else◌}
use Rattle.std.specs.Str.{bytes_eq}

-- what stands first under a name
abbrev pub found : {V : Type 0} → List ℕ → List (List ℕ × V) → Option V
found name [] = None
found name (p ∷ ps) = if bytes_eq p.0 name then Some p.1 else found name ps
