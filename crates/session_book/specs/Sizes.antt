-- The size of a session's value.
use Rattle.std.specs.Prelude.{ℕ, ◌+◌, length}
use Rattle.order_map.specs.declared.key.Key.{Key}
use Rattle.order_map.specs.declared.key.Key.TheVariants.{Int, Text}
use Rattle.php_values.specs.Data.{Data, null, truth, int, bytes, array, object, ArrayData, of_pairs, Pairs, no_pairs, pair}

-- a number has 9, a text 5 and its length
abbrev pub key_size : Key → ℕ
key_size (Int n) = 9
key_size (Text t) = 5 + length t

-- null, truth values and objects have 1, a list 5 and the sizes of its keys and values
abbrev mutual
  pub size_of : Data → ℕ
  size_of null = 1
  size_of (truth b) = 1
  size_of (int n) = 9
  size_of (bytes t) = 5 + length t
  size_of (array a) = array_size a
  size_of (object n) = 1

  pub array_size : ArrayData → ℕ
  array_size (of_pairs ps next) = 5 + pairs_size ps

  pub pairs_size : Pairs → ℕ
  pairs_size no_pairs = 0
  pairs_size (pair k d ps) = key_size k + size_of d + pairs_size ps

-- the greatest size of a value that is kept
abbrev pub max_session : ℕ
max_session = 65536
