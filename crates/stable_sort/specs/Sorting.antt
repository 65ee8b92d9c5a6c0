-- Lists in order, where what ties keeps its order.
use Rattle.std.specs.Prelude.{List, [], ◌∷◌, Bool, if◌then◌else◌}

-- an element put before the first one of a list that is not less than it
abbrev pub insert_by : {X : Type 0} → (X → X → Bool) → X → List X → List X
insert_by lt x [] = x ∷ []
insert_by lt x (y ∷ ys) = if lt y x then y ∷ insert_by lt x ys else x ∷ (y ∷ ys)

-- a list in order by a test of less: what ties keeps its order
abbrev pub sort_by : {X : Type 0} → (X → X → Bool) → List X → List X
sort_by lt [] = []
sort_by lt (x ∷ xs) = insert_by lt x (sort_by lt xs)
