-- One step from a value into another: what is read there.
use Rattle.std.specs.Prelude.{List, [], ◌∷◌, ℕ, ◌-◌, ℤ, pos, negsuc, length, slice_get, nat_lt, if◌then◌else◌}
use Rattle.std.specs.declared.option.Option.{Option}
use Rattle.std.specs.declared.option.Option.TheVariants.{Some, None}
use Rattle.std.specs.declared.result.Result.{Result}
use Rattle.std.specs.declared.result.Result.TheVariants.{Ok, Err}
use Rattle.order_map.specs.declared.key.Key.{Key}
use Rattle.order_map.specs.declared.key.Key.TheVariants.{Int, Text}
use Rattle.php_values.specs.declared.fault.ValueFault.{ValueFault}
use Rattle.php_values.specs.Data.{Data, null, truth, int, bytes, array, object, ArrayData}
use Rattle.php_values.specs.Convert.{key_of}
use Rattle.php_values.specs.Arithmetic.{value_in}
use Rattle.php_world.specs.declared.fault.PlaceFault.TheVariants.{Kind, ObjectAsArray}
use Rattle.php_world.specs.declared.reading.Reading.{Reading}
use Rattle.php_world.specs.declared.reading.Reading.TheVariants.{Plain, Quiet}
use Rattle.php_world.specs.Answers.{Answer, and_then}

-- a step: `[key]` with the key as it was evaluated, `[]`, or `->name`
pub data Step : Type 0 where
  at : (key : Data) → Step
  next : Step
  member : (name : List ℕ) → Step

-- a key that is no array and no object
abbrev pub key_answer : Result Key ValueFault → Answer Key
key_answer (Ok key) = Ok key
key_answer (Err fault) = Err Kind

-- the key that the value of an index stands for
abbrev pub key_at : Data → Answer Key
key_at d = key_answer (key_of d)

abbrev pub or_null : Option Data → Data
or_null None = null
or_null (Some d) = d

-- the value of a key, null where it is missing
abbrev pub item_at : Key → ArrayData → Data
item_at key a = or_null (value_in key a)

-- the byte that is n bytes behind the first one, and the one that is n bytes before the last one
abbrev pub byte_before : List ℕ → ℕ → Option ℕ
byte_before t n = if nat_lt n (length t) then slice_get t (length t - 1 - n) else None

-- a byte of a text, from its end where the offset is negative
abbrev pub byte_at : ℤ → List ℕ → Option ℕ
byte_at (pos n) t = slice_get t n
byte_at (negsuc n) t = byte_before t n

-- what is read of a text out of its range: the empty text, and null where it is only asked whether something is set
abbrev pub no_byte : Reading → Data
no_byte Plain = bytes []
no_byte Quiet = null

abbrev pub byte_data : Reading → Option ℕ → Data
byte_data how None = no_byte how
byte_data how (Some b) = bytes (b ∷ [])

-- a text key on a text
abbrev pub text_offset : Reading → Answer Data
text_offset Plain = Err Kind
text_offset Quiet = Ok null

abbrev pub offset_of : Reading → List ℕ → Key → Answer Data
offset_of how t (Int n) = Ok (byte_data how (byte_at n t))
offset_of how t (Text s) = text_offset how

-- what is read one index further in; the container is looked at before the key
abbrev pub index_of : Reading → Data → Data → Answer Data
index_of how key null = Ok null
index_of how key (truth b) = Ok null
index_of how key (int n) = Ok null
index_of how key (bytes t) = and_then (key_at key) (offset_of how t)
index_of how key (array a) = and_then (key_at key) (λ k. Ok (item_at k a))
index_of how key (object n) = Err ObjectAsArray

abbrev pub index_next : Data → Answer Data
index_next null = Ok null
index_next (truth b) = Ok null
index_next (int n) = Ok null
index_next (bytes t) = Ok null
index_next (array a) = Ok null
index_next (object n) = Err ObjectAsArray

-- what is read one step further in. Objects have no members yet.
abbrev pub step_by : Reading → Step → Data → Answer Data
step_by how (at key) d = index_of how key d
step_by how next d = index_next d
step_by how (member name) d = Ok null

-- what is read along a path
abbrev pub read_by : Reading → List Step → Data → Answer Data
read_by how [] d = Ok d
read_by how (s ∷ path) d = and_then (step_by how s d) (read_by how path)

abbrev pub read_step : Step → Data → Answer Data
read_step = step_by Plain

abbrev pub read_at : List Step → Data → Answer Data
read_at = read_by Plain

-- what `isset`, `empty` and `??` read: null where nothing is set
abbrev pub quiet_step : Step → Data → Answer Data
quiet_step = step_by Quiet

abbrev pub quiet_at : List Step → Data → Answer Data
quiet_at = read_by Quiet
