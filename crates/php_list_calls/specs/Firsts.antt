-- The first argument of a call that may change it.
use Rattle.std.specs.Prelude.{List, [], ◌∷◌, ℕ, Bool}
use Rattle.php_values.specs.Data.{Data, null, truth, int, bytes, array, object, ArrayData}
use Rattle.php_list_calls.specs.Items.{empty}

-- the first of some values, null where there is none
abbrev pub first_of : List Data → Data
first_of [] = null
first_of (d ∷ ds) = d

-- another value in the place of the first
abbrev pub with_first : Data → List Data → List Data
with_first d [] = []
with_first d (e ∷ ds) = d ∷ ds

-- the array that a value is; one that is no array counts as an empty one
abbrev pub array_in : Data → ArrayData
array_in null = empty
array_in (truth b) = empty
array_in (int n) = empty
array_in (bytes t) = empty
array_in (array a) = a
array_in (object n) = empty
