-- Arrays whose values become keys, or stand once.
use Rattle.std.specs.Prelude.{List, [], ◌∷◌, ◌++◌, ℕ, Bool, if◌then◌else◌}
use Rattle.order_map.specs.declared.key.Key.{Key}
use Rattle.order_map.specs.declared.key.Key.TheVariants.{Int, Text}
use Rattle.order_map.specs.Keys.{has_key}
use Rattle.php_values.specs.Data.{Data, null, truth, int, bytes, array, object, ArrayData}
use Rattle.php_values.specs.Convert.{text_key, normal_number}
use Rattle.php_arguments.specs.Answers.{CallAnswer, Ok, Err, go_on}
use Rattle.php_arguments.specs.Arguments.{text_argument}
use Rattle.php_list_calls.specs.Items.{Item, key_value, with_set}

-- ---- flipped

-- a value that is a number or a text is set as a key, with its key as the value; another value is passed over
abbrev pub with_flipped : Key → Data → ArrayData → ArrayData
with_flipped k null a = a
with_flipped k (truth b) a = a
with_flipped k (int n) a = with_set (Int n) (key_value k) a
with_flipped k (bytes t) a = with_set (text_key (normal_number t) t) (key_value k) a
with_flipped k (array b) a = a
with_flipped k (object n) a = a

abbrev pub flipped : ArrayData → List Item → ArrayData
flipped a [] = a
flipped a (e ∷ es) = flipped (with_flipped e.0 e.1 a) es

-- ---- the first of each text

-- the items whose texts are not among some others, nor among those of earlier items
abbrev pub first_ones : List Key → ArrayData → List Item → CallAnswer ArrayData
first_ones texts a [] = Ok a
first_ones texts a (e ∷ es) =
    go_on (text_argument e.1) (λ t. if has_key (Text t) texts then first_ones texts a es else first_ones (texts ++ Text t ∷ []) (with_set e.0 e.1 a) es)
