-- Items in order.
use Rattle.std.specs.Prelude.{List, [], ◌∷◌, ℕ, ℤ, Bool, true, false, not, ◌&&◌, ◌||◌, int_lt, if◌then◌else◌}
use Rattle.std.specs.List.{list_all}
use Rattle.std.specs.Ordering.{is_lt, nat_cmp, int_cmp}
use Rattle.std.specs.Cmp.Lexicographic.{slice_cmp}
use Rattle.stable_sort.specs.Sorting.{sort_by}
use Rattle.php_values.specs.Data.{Data, null, truth, int, bytes, array, object, ArrayData, of_pairs, array_next}
use Rattle.php_values.specs.Convert.{is_numeric}
use Rattle.php_arguments.specs.declared.fault.CallFault.TheVariants.{Sort}
use Rattle.php_arguments.specs.Answers.{CallAnswer, Ok, Err, go_on}
use Rattle.php_list_calls.specs.Items.{Item, key_value}
use Rattle.php_list_calls.specs.declared.order.Part.{Part}
use Rattle.php_list_calls.specs.declared.order.Part.TheVariants.{ByKey, ByValue}
use Rattle.php_list_calls.specs.declared.order.Way.{Way}
use Rattle.php_list_calls.specs.declared.order.Way.TheVariants.{Rising, Falling}

-- what items are sorted by: their keys or their values
abbrev pub ranked_by : Part → Item → Data
ranked_by ByKey e = key_value e.0
ranked_by ByValue e = e.1

abbrev pub is_number : Data → Bool
is_number null = false
is_number (truth b) = false
is_number (int n) = true
is_number (bytes t) = false
is_number (array a) = false
is_number (object n) = false

-- a text that is no number
abbrev pub is_word : Data → Bool
is_word null = false
is_word (truth b) = false
is_word (int n) = false
is_word (bytes t) = not (is_numeric t)
is_word (array a) = false
is_word (object n) = false

-- numbers by size, and texts by their bytes
abbrev pub less : Data → Data → Bool
less (int m) (int n) = is_lt (int_cmp m n)
less (bytes s) (bytes t) = is_lt (slice_cmp nat_cmp s t)
less a b = false

abbrev pub before : Way → Part → Item → Item → Bool
before Rising part x y = less (ranked_by part x) (ranked_by part y)
before Falling part x y = less (ranked_by part y) (ranked_by part x)

-- whether items have an order: all of them are numbers, or all of them texts that are no numbers
abbrev pub has_order : Part → List Item → Bool
has_order part es = list_all (λ e. is_number (ranked_by part e)) es || list_all (λ e. is_word (ranked_by part e)) es

-- items in order; what ties keeps its order
abbrev pub in_order : Way → Part → List Item → CallAnswer (List Item)
in_order way part es = if has_order part es then Ok (sort_by (before way part) es) else Err Sort
