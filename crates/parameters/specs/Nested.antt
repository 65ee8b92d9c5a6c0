-- Values written at paths within arrays.
use Rattle.std.specs.Prelude.{pos, ◌==◌, List, [], ◌∷◌, Option, None, Some, if◌then◌else◌}
use Rattle.order_map.specs.declared.key.Key.{Key}
use Rattle.order_map.specs.declared.key.Key.TheVariants.{Int}
use Rattle.order_map.specs.Keys.{same_key, next_after, spent}
use Rattle.php_values.specs.Data.{Data, null, truth, int, bytes, array, object, ArrayData, of_pairs, array_next, Pairs, no_pairs, pair}
use Rattle.php_values.specs.Arithmetic.{value_in, added_pair}
use Rattle.parameters.specs.declared.step.Step.{Step}
use Rattle.parameters.specs.declared.step.Step.TheVariants.{At, Next}

abbrev pub no_array : ArrayData
no_array = of_pairs no_pairs 0

-- the value of a key is set, in its place or at the end
abbrev pub put_pair : Key → Data → Pairs → Pairs
put_pair key d no_pairs = pair key d no_pairs
put_pair key d (pair k e ps) = if same_key k key then pair k d ps else pair k e (put_pair key d ps)

abbrev pub put_in : Key → Data → ArrayData → ArrayData
put_in key d (of_pairs ps next) = of_pairs (put_pair key d ps) (next_after key next)

abbrev pub or_null : Option Data → Data
or_null None = null
or_null (Some d) = d

-- the array that stands there; anything else is replaced by an array without pairs
abbrev pub array_in : Data → ArrayData
array_in null = no_array
array_in (truth b) = no_array
array_in (int n) = no_array
array_in (bytes t) = no_array
array_in (array a) = a
array_in (object n) = no_array

-- one step of a write, where within is what becomes of the value that stands there, or of null. At `[]` an array whose
-- next key is spent stays as it is; such an array has pairs, so that nothing was replaced on the way to it
abbrev pub stepped : Step → (Data → Data) → ArrayData → ArrayData
stepped (At key) within a = put_in key (within (or_null (value_in key a))) a
stepped Next within a = if array_next a == spent then a else added_pair (Int (pos (array_next a))) (within null) a

-- what stands at the beginning of a path after a value was written at its end
abbrev pub written : Data → List Step → Data → Data
written value [] old = value
written value (s ∷ path) old = array (stepped s (written value path) (array_in old))

-- the array after a value was written at the end of a path that begins in it
abbrev pub written_in : Data → List Step → ArrayData → ArrayData
written_in value [] a = a
written_in value (s ∷ path) a = stepped s (written value path) a

-- an array with the pairs of others set over its own
abbrev pub set_over : Pairs → ArrayData → ArrayData
set_over no_pairs a = a
set_over (pair k d ps) a = set_over ps (put_in k d a)
