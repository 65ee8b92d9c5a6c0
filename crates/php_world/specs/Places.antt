-- Places within a value: writing and removing along a path of steps.
use Rattle.std.specs.Prelude.{List, [], ◌∷◌, ◌++◌, length, ℕ, pos, Bool, true, false, not, nat_lt, nat_le, ◌==◌, if◌then◌else◌}
use Rattle.std.specs.declared.option.Option.{Option}
use Rattle.std.specs.declared.option.Option.TheVariants.{Some, None}
use Rattle.std.specs.declared.result.Result.TheVariants.{Ok, Err}
use Rattle.order_map.specs.declared.key.Key.{Key}
use Rattle.order_map.specs.declared.key.Key.TheVariants.{Int}
use Rattle.order_map.specs.Keys.{same_key, spent}
use Rattle.php_values.specs.Data.{Data, null, truth, int, bytes, array, object, ArrayData, of_pairs, array_next, array_pairs, count_of, Pairs, no_pairs, pair}
use Rattle.php_values.specs.Arithmetic.{value_in, added_pair, max_pairs, max_text}
use Rattle.php_world.specs.declared.fault.PlaceFault.TheVariants.{Kind, Keys, Size, ObjectAsArray, NotAnObject}
use Rattle.php_world.specs.Answers.{Answer, and_then, when_ok}
use Rattle.php_world.specs.Steps.{Step, at, next, member, key_at}

-- ---- arrays

abbrev pub no_array : ArrayData
no_array = of_pairs no_pairs 0

-- the value of a key that is there is another one
abbrev pub set_at : Key → Data → Pairs → Pairs
set_at key new no_pairs = no_pairs
set_at key new (pair k d ps) = if same_key k key then pair k new ps else pair k d (set_at key new ps)

abbrev pub with_item : Key → ArrayData → Data → ArrayData
with_item key (of_pairs ps n) new = of_pairs (set_at key new ps) n

-- a new pair behind the others
abbrev pub with_new : Key → ArrayData → Data → ArrayData
with_new key a new = added_pair key new a

-- no pair can be added
abbrev pub is_full : ArrayData → Bool
is_full a = not (nat_lt (count_of (array_pairs a)) max_pairs)

-- whether no number is left for a next key
abbrev pub is_spent : ArrayData → Bool
is_spent a = array_next a == spent

-- the pairs without that of a key
abbrev pub without_at : Key → Pairs → Pairs
without_at key no_pairs = no_pairs
without_at key (pair k d ps) = if same_key k key then ps else pair k d (without_at key ps)

abbrev pub without_item : Key → ArrayData → ArrayData
without_item key (of_pairs ps n) = of_pairs (without_at key ps) n

-- ---- writing

-- null and false become arrays where they are written into
abbrev pub is_blank : Data → Bool
is_blank null = true
is_blank (truth b) = not b
is_blank (int n) = false
is_blank (bytes t) = false
is_blank (array a) = false
is_blank (object n) = false

abbrev pub array_in : Data → Answer ArrayData
array_in null = Err Kind
array_in (truth b) = Err Kind
array_in (int n) = Err Kind
array_in (bytes t) = Err Kind
array_in (array a) = Ok a
array_in (object n) = Err ObjectAsArray

-- the array that is written into
abbrev pub opened : Data → Answer ArrayData
opened d = if is_blank d then Ok no_array else array_in d

-- a change of the value of a key that is there
abbrev pub change_found : Key → (Data → Answer Data) → ArrayData → Data → Answer ArrayData
change_found key within a d = when_ok (with_item key a) (within d)

-- a new value under a key that is not there
abbrev pub change_missing : Key → (Data → Answer Data) → ArrayData → Answer ArrayData
change_missing key within a = if is_full a then Err Size else when_ok (with_new key a) (within null)

abbrev pub change_item : Key → (Data → Answer Data) → ArrayData → Option Data → Answer ArrayData
change_item key within a (Some d) = change_found key within a d
change_item key within a None = change_missing key within a

abbrev pub write_key : (Data → Answer Data) → ArrayData → Key → Answer ArrayData
write_key within a key = change_item key within a (value_in key a)

-- a new value under the next key
abbrev pub write_next : (Data → Answer Data) → ArrayData → Answer ArrayData
write_next within a = if is_full a then Err Size else (if is_spent a then Err Keys else when_ok (with_new (Int (pos (array_next a))) a) (within null))

-- one index of a write, where within is what happens further in
abbrev pub write_index : Step → (Data → Answer Data) → ArrayData → Answer ArrayData
write_index (at key) within a = and_then (key_at key) (write_key within a)
write_index next within a = write_next within a
write_index (member name) within a = Err NotAnObject

abbrev pub write_item : Step → (Data → Answer Data) → Data → Answer Data
write_item s within old = when_ok array (and_then (opened old) (write_index s within))

-- a write into a member, which only an object has; objects have none yet
abbrev pub write_step : Step → (Data → Answer Data) → Data → Answer Data
write_step (at key) within old = write_item (at key) within old
write_step next within old = write_item next within old
write_step (member name) within old = Err NotAnObject

-- the value after a change at the end of a path
abbrev pub write_at : List Step → (Data → Answer Data) → Data → Answer Data
write_at [] change old = change old
write_at (s ∷ path) change old = write_step s (write_at path change) old

-- the change of `=`: another value in its place
abbrev pub put : Data → Data → Answer Data
put new old = Ok new

-- a text with more behind it, where it is one and has room
abbrev pub sized_text : List ℕ → Answer Data
sized_text t = if nat_le (length t) max_text then Ok (bytes t) else Err Size

abbrev pub grow : List ℕ → Data → Answer Data
grow more null = Err Kind
grow more (truth b) = Err Kind
grow more (int n) = Err Kind
grow more (bytes t) = sized_text (t ++ more)
grow more (array a) = Err Kind
grow more (object n) = Err Kind

-- ---- removing

-- a change of the value of a key, if it is there
abbrev pub unset_within : Key → (Data → Answer Data) → ArrayData → Option Data → Answer ArrayData
unset_within key within a (Some d) = change_found key within a d
unset_within key within a None = Ok a

-- one index of an unset: the last one takes the pair out
abbrev pub unset_key : List Step → (Data → Answer Data) → ArrayData → Key → Answer ArrayData
unset_key [] within a key = Ok (without_item key a)
unset_key (s ∷ path) within a key = unset_within key within a (value_in key a)

abbrev pub unset_index : Step → List Step → (Data → Answer Data) → ArrayData → Answer ArrayData
unset_index (at key) path within a = and_then (key_at key) (unset_key path within a)
unset_index next path within a = Ok a
unset_index (member name) path within a = Ok a

-- one index of an unset: below null, truth values and numbers there is nothing, and a text keeps its bytes
abbrev pub unset_item : Step → List Step → (Data → Answer Data) → Data → Answer Data
unset_item s path within null = Ok null
unset_item s path within (truth b) = Ok (truth b)
unset_item s path within (int n) = Ok (int n)
unset_item s path within (bytes t) = Err Kind
unset_item s path within (array a) = when_ok array (unset_index s path within a)
unset_item s path within (object n) = Err ObjectAsArray

abbrev pub unset_step : Step → List Step → (Data → Answer Data) → Data → Answer Data
unset_step (at key) path within d = unset_item (at key) path within d
unset_step next path within d = unset_item next path within d
unset_step (member name) path within d = Ok d

-- the value after an unset along a path, which changes nothing where something is missing
abbrev pub unset_at : List Step → Data → Answer Data
unset_at [] d = Ok d
unset_at (s ∷ path) d = unset_step s path (unset_at path) d
