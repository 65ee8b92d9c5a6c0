-- The items of arrays as lists, and arrays that are made of items.
use Rattle.std.specs.Prelude.{List, [], ◌∷◌, ℕ, ◌+◌, pos, map, max, if◌then◌else◌}
use Rattle.order_map.specs.declared.key.Key.{Key}
use Rattle.order_map.specs.declared.key.Key.TheVariants.{Int, Text}
use Rattle.order_map.specs.Keys.{same_key, next_after}
use Rattle.php_values.specs.declared.value.Value.{Value}
use Rattle.php_values.specs.Data.{Data, int, bytes, ArrayData, of_pairs, array_pairs, Pairs, no_pairs, pair, data_of}
use Rattle.php_values.specs.Arithmetic.{put_last}

-- a key and its value
abbrev pub Item : Type 0
Item = Key × Data

-- the items of an array in their order
abbrev pub pair_items : Pairs → List Item
pair_items no_pairs = []
pair_items (pair k d ps) = (k, d) ∷ pair_items ps

abbrev pub items : ArrayData → List Item
items a = pair_items (array_pairs a)

-- the items of a list of keys and values
abbrev pub items_of : List (Key × Value) → List Item
items_of ps = map (λ p. (p.0, data_of p.1)) ps

-- their values
abbrev pub values_of : List Item → List Data
values_of es = map (λ e. e.1) es

-- a key as a value
abbrev pub key_value : Key → Data
key_value (Int n) = int n
key_value (Text t) = bytes t

-- ---- items that are set

abbrev pub set_pair : Key → Data → Pairs → Pairs
set_pair key d no_pairs = pair key d no_pairs
set_pair key d (pair k e ps) = if same_key k key then pair k d ps else pair k e (set_pair key d ps)

-- a key's value is set, in its place or behind the others
abbrev pub with_set : Key → Data → ArrayData → ArrayData
with_set key d (of_pairs ps next) = of_pairs (set_pair key d ps) (next_after key next)

-- a value under the next key
abbrev pub with_next : Data → ArrayData → ArrayData
with_next d (of_pairs ps next) = of_pairs (put_last (Int (pos next)) d ps) (next + 1)

abbrev pub empty : ArrayData
empty = of_pairs no_pairs 0

-- an array with some items, set one by one
abbrev pub with_all : ArrayData → List Item → ArrayData
with_all a [] = a
with_all a (e ∷ es) = with_all (with_set e.0 e.1 a) es

-- an array with some values under the next keys
abbrev pub with_values : ArrayData → List Data → ArrayData
with_values a [] = a
with_values a (d ∷ ds) = with_values (with_next d a) ds

-- an array with a next key of at least a number
abbrev pub with_next_key : ℕ → ArrayData → ArrayData
with_next_key n (of_pairs ps next) = of_pairs ps (max next n)

-- ---- number keys anew

-- an item with a number key gets the next key instead; a text key is set, in its place or behind the others
abbrev pub with_item : Key → Data → ArrayData → ArrayData
with_item (Int n) d a = with_next d a
with_item (Text t) d a = with_set (Text t) d a

abbrev pub with_items : ArrayData → List Item → ArrayData
with_items a [] = a
with_items a (e ∷ es) = with_items (with_item e.0 e.1 a) es

-- the array of some items whose number keys are counted from 0 anew
abbrev pub renumbered : List Item → ArrayData
renumbered es = with_items empty es
