-- Values as plain data, and the data of a value.
use Rattle.std.specs.Prelude.{List, [], ◌∷◌, ℕ, ◌+◌, ℤ, Bool}
use Rattle.order_map.specs.declared.key.Key.{Key}
use Rattle.order_map.specs.MapView.{MapView}
use Rattle.order_map.specs.Arrays.{pairs_of, next_of}
use Rattle.php_values.specs.declared.value.Value.{Value, fold-Value}
use Rattle.php_values.specs.declared.value.Value.TheOpen.{Value-F}
use Rattle.php_values.specs.declared.value.Value.TheOpen.{ArrayValue-F}

mutual
  -- null, a truth value, a number, a text as its bytes, an array, or an object by its number
  pub data Data : Type 0 where
    null : Data
    truth : Bool → Data
    int : ℤ → Data
    bytes : List ℕ → Data
    array : ArrayData → Data
    object : ℕ → Data

  -- the pairs of an array in their order, and its next key
  pub data ArrayData : Type 0 where
    of_pairs : Pairs → ℕ → ArrayData

  -- pairs of a key and a value
  pub data Pairs : Type 0 where
    no_pairs : Pairs
    pair : Key → Data → Pairs → Pairs

-- pairs from a list of them
abbrev pub pairs_data : List (Key × Data) → Pairs
pairs_data [] = no_pairs
pairs_data (p ∷ ps) = pair p.0 p.1 (pairs_data ps)

abbrev pub map_data : MapView Data → ArrayData
map_data m = of_pairs (pairs_data (pairs_of m)) (next_of m)

abbrev pub data_step : Value-F Data ArrayData → Data
data_step Value-F.Null = null
data_step (Value-F.Bool b) = truth b
data_step (Value-F.Int n) = int n
data_step (Value-F.Bytes t) = bytes t
data_step (Value-F.List a) = array a
data_step (Value-F.Object n) = object n

abbrev pub array_step : ArrayValue-F Data ArrayData → ArrayData
array_step a = map_data a.map.value

-- the data of a value
abbrev pub data_of : Value → Data
data_of = fold-Value Data ArrayData data_step array_step

-- the data of pairs of values, and of a map of values
abbrev pub data_pairs : List (Key × Value) → Pairs
data_pairs [] = no_pairs
data_pairs (p ∷ ps) = pair p.0 (data_of p.1) (data_pairs ps)

abbrev pub array_of : MapView Value → ArrayData
array_of m = of_pairs (data_pairs (pairs_of m)) (next_of m)

-- ---- arrays as data

-- the pairs and the next key of an array
abbrev pub array_pairs : ArrayData → Pairs
array_pairs (of_pairs ps next) = ps

abbrev pub array_next : ArrayData → ℕ
array_next (of_pairs ps next) = next

-- how many pairs there are
abbrev pub count_of : Pairs → ℕ
count_of no_pairs = 0
count_of (pair k d ps) = count_of ps + 1
