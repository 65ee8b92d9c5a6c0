-- What each library call on lists gives.
use Rattle.std.specs.Prelude.{◌≡◌, ◌≢◌, List, [], ◌∷◌, ◌++◌, ℕ, ◌+◌, ℤ, pos, negsuc, Bool, true, false, map, reverse, codes, if◌then◌else◌}
use Rattle.std.specs.Str.{bytes_eq}
use Rattle.std.specs.declared.option.Option.{Option}
use Rattle.std.specs.declared.option.Option.TheVariants.{Some, None}
use Rattle.std.specs.Option.{is_some}
use Rattle.php_values.specs.Data.{Data, null, truth, int, bytes, array, object, ArrayData, array_pairs, array_next, count_of, data_of, array_of}
use Rattle.order_map.specs.declared.key.Key.{Key}
use Rattle.php_values.specs.Convert.{key_of}
use Rattle.php_values.specs.Compare.{value_of}
use Rattle.php_values.specs.Arithmetic.{sized_array}
pub use Rattle.php_arguments.specs.Answers.{CallAnswer, Result, Ok, Err, as_call, go_on, GivesAnswer, GivesValue, datas}
use Rattle.php_arguments.specs.Arguments.{one, two, three, one_or_two, two_or_three, one_and_more, int_argument, int_if_given, array_argument}
use Rattle.php_arguments.specs.Results.{array_list}
use Rattle.std.specs.Borrow.{Bor}
use Rattle.order_map.specs.MapView.{MapView}
use Rattle.php_values.specs.declared.value.Value.{Value}
use Rattle.php_arguments.specs.declared.fault.CallFault.{CallFault}
use Rattle.php_arguments.specs.declared.fault.CallFault.TheVariants.{Memory}
pub use Rattle.php_arguments.specs.Answers.{GivesArray}
use Rattle.php_list_calls.specs.Items.{Item, items, values_of, key_value, empty, with_items, with_all, with_next_key, renumbered}
use Rattle.php_list_calls.specs.Numbers.{summed, best_of, range}
use Rattle.php_list_calls.specs.Sets.{flipped, first_ones}
use Rattle.php_list_calls.specs.Ends.{pushed, last_value, popped, first_value, shifted, unshifted}
use Rattle.php_list_calls.specs.Orders.{in_order}
use Rattle.php_list_calls.specs.declared.numbers.Extreme.{Extreme}
use Rattle.php_list_calls.specs.declared.numbers.Extreme.TheVariants.{Greatest, Least}
use Rattle.php_list_calls.specs.declared.order.Part.{Part}
use Rattle.php_list_calls.specs.declared.order.Part.TheVariants.{ByKey, ByValue}
use Rattle.php_list_calls.specs.declared.order.Way.{Way}
use Rattle.php_list_calls.specs.declared.order.Way.TheVariants.{Rising, Falling}
use Rattle.php_list_calls.specs.declared.call.ListCall.{ListCall}
use Rattle.php_list_calls.specs.declared.call.ListCall.TheVariants.{Count, InArray, ArraySearch, ArrayKeys, ArrayValues, ArrayKeyExists, ArrayMerge, ArrayPush, ArrayPop, ArrayShift, ArrayUnshift, ArraySlice, ArrayReverse, ArraySum, ArrayFlip, ArrayUnique, Range, Max, Min, Sort, Rsort, Asort, Arsort, Ksort, Krsort}
use Rattle.php_list_calls.specs.Looking.{truth_or, alike, key_where, key_or_false, slice}

-- ---- the arguments

-- the only argument, an array
abbrev pub only_array : List Data → CallAnswer ArrayData
only_array args = go_on (one args) (λ a. array_argument a)

-- an array with the items of others, which are all to be arrays
abbrev pub merged : ArrayData → List Data → CallAnswer ArrayData
merged a [] = Ok a
merged a (d ∷ ds) = go_on (array_argument d) (λ b. merged (with_items a (items b)) ds)

-- ---- calls that look

abbrev pub count : List Data → CallAnswer Data
count args = go_on (only_array args) (λ a. Ok (int (pos (count_of (array_pairs a)))))

-- the key of a value in an array
abbrev pub sought : List Data → CallAnswer (Option Key)
sought args =
    go_on (two_or_three args) (λ p.
    go_on (array_argument p.second) (λ a.
    key_where (alike (truth_or false p.third) p.first) (items a)))

abbrev pub in_array : List Data → CallAnswer Data
in_array args = go_on (sought args) (λ key. Ok (truth (is_some key)))

abbrev pub array_search : List Data → CallAnswer Data
array_search args = go_on (sought args) (λ key. Ok (key_or_false key))

-- whether an array has a key
abbrev pub has_key : Key → ArrayData → Bool
has_key key a = is_some (value_of key (array_pairs a))

abbrev pub array_key_exists : List Data → CallAnswer Data
array_key_exists args =
    go_on (two args) (λ p.
    go_on (as_call (key_of p.first)) (λ key.
    go_on (array_argument p.second) (λ a. Ok (truth (has_key key a)))))

-- ---- calls that make arrays of others

abbrev pub array_keys : List Data → CallAnswer Data
array_keys args = go_on (only_array args) (λ a. Ok (array (array_list (map (λ e. key_value e.0) (items a)))))

abbrev pub array_values : List Data → CallAnswer Data
array_values args = go_on (only_array args) (λ a. Ok (array (array_list (values_of (items a)))))

abbrev pub array_merge : List Data → CallAnswer Data
array_merge args =
    go_on (one_and_more args) (λ p.
    go_on (merged empty (p.first ∷ p.rest)) (λ a. as_call (sized_array a)))

abbrev pub array_slice : List Data → CallAnswer Data
array_slice args =
    go_on (two_or_three args) (λ p.
    go_on (array_argument p.first) (λ a.
    go_on (int_argument p.second) (λ start.
    go_on (int_if_given p.third) (λ count. Ok (array (renumbered (slice (items a) start count)))))))

abbrev pub array_reverse : List Data → CallAnswer Data
array_reverse args = go_on (only_array args) (λ a. Ok (array (renumbered (reverse (items a)))))

-- ---- what the calls' parts answer

abbrev pub lent_key : Option (Bor Key) → Option Key
lent_key None = None
lent_key (Some k) = Some k.now

abbrev pub GivesKey : CallAnswer (Option Key) → Result (Option (Bor Key)) CallFault → Type 0
GivesKey expected (Ok k) = expected ≡ Ok (lent_key k)
GivesKey expected (Err f) = f ≢ Memory → expected ≡ Err f

-- an array that was changed as its definition says, or a fault
abbrev pub GivesChanged : {A : Type 0} → CallAnswer ArrayData → ArrayData → Result A CallFault → Type 0
GivesChanged expected new (Ok u) = expected ≡ Ok new
GivesChanged expected new (Err f) = f ≢ Memory → expected ≡ Err f

-- a map that a call makes
abbrev pub GivesMap : CallAnswer ArrayData → Result (MapView Value) CallFault → Type 0
GivesMap expected (Ok m) = expected ≡ Ok (array_of m)
GivesMap expected (Err f) = f ≢ Memory → expected ≡ Err f

-- ---- numbers

abbrev pub array_sum : List Data → CallAnswer Data
array_sum args = go_on (only_array args) (λ a. go_on (summed (pos 0) (values_of (items a))) (λ n. Ok (int n)))

abbrev pub extreme_call : Extreme → List Data → CallAnswer Data
extreme_call way args = go_on (only_array args) (λ a. best_of way (values_of (items a)))

abbrev pub range_call : List Data → CallAnswer Data
range_call args =
    go_on (two args) (λ p.
    go_on (int_argument p.first) (λ m.
    go_on (int_argument p.second) (λ n. range m n)))

-- ---- sets

abbrev pub array_flip : List Data → CallAnswer Data
array_flip args = go_on (only_array args) (λ a. Ok (array (flipped empty (items a))))

abbrev pub array_unique : List Data → CallAnswer Data
array_unique args = go_on (only_array args) (λ a. go_on (first_ones [] empty (items a)) (λ b. Ok (array b)))

-- ---- calls that change their first argument

-- what a call gives, and its arguments after it
pub record ListAnswer : Type 0 where
  pub value : Data
  pub after : List Data

-- a call that leaves its arguments
abbrev pub left : List Data → CallAnswer Data → CallAnswer ListAnswer
left args answer = go_on answer (λ d. Ok (record { value = d; after = args }))

-- a value, and another array in the place of the first argument
abbrev pub gives : Data → ArrayData → List Data → ListAnswer
gives d a rest = record { value = d; after = array a ∷ rest }

abbrev pub size : ArrayData → Data
size a = int (pos (count_of (array_pairs a)))

abbrev pub array_push : List Data → CallAnswer ListAnswer
array_push args =
    go_on (one_and_more args) (λ p.
    go_on (array_argument p.first) (λ a.
    go_on (pushed a p.rest) (λ b. Ok (gives (size b) b p.rest))))

abbrev pub array_pop : List Data → CallAnswer ListAnswer
array_pop args = go_on (only_array args) (λ a. Ok (gives (last_value (array_pairs a)) (popped a) []))

abbrev pub array_shift : List Data → CallAnswer ListAnswer
array_shift args = go_on (only_array args) (λ a. Ok (gives (first_value (items a)) (shifted a) []))

abbrev pub array_unshift : List Data → CallAnswer ListAnswer
array_unshift args =
    go_on (two args) (λ p.
    go_on (array_argument p.first) (λ a.
    go_on (unshifted p.second a) (λ b. Ok (gives (size b) b (p.second ∷ [])))))

-- an array whose values stand in order, as a list, and one whose items stand in order
abbrev pub listed : Way → ArrayData → CallAnswer ArrayData
listed way a = go_on (in_order way ByValue (items a)) (λ es. Ok (array_list (values_of es)))

abbrev pub arranged : Way → Part → ArrayData → CallAnswer ArrayData
arranged way part a = go_on (in_order way part (items a)) (λ es. Ok (with_next_key (array_next a) (with_all empty es)))

abbrev pub sorted_list : Way → List Data → CallAnswer ListAnswer
sorted_list way args = go_on (only_array args) (λ a. go_on (listed way a) (λ b. Ok (gives (truth true) b [])))

abbrev pub sorted_array : Way → Part → List Data → CallAnswer ListAnswer
sorted_array way part args = go_on (only_array args) (λ a. go_on (arranged way part a) (λ b. Ok (gives (truth true) b [])))

-- a call that may change its arguments answers what its definition does, or that memory is short; after any other
-- refusal its arguments are as before
abbrev pub GivesAfter : CallAnswer ListAnswer → List Data → List Data → Result Value CallFault → Type 0
GivesAfter expected old new (Ok v) = expected ≡ Ok (record { value = data_of v; after = new })
GivesAfter expected old new (Err f) = f ≢ Memory → (expected ≡ Err f) × (new ≡ old)

-- ---- all of them

unfoldable pub list_answer : ListCall → List Data → CallAnswer ListAnswer
list_answer Count args = left args (count args)
list_answer InArray args = left args (in_array args)
list_answer ArraySearch args = left args (array_search args)
list_answer ArrayKeys args = left args (array_keys args)
list_answer ArrayValues args = left args (array_values args)
list_answer ArrayKeyExists args = left args (array_key_exists args)
list_answer ArrayMerge args = left args (array_merge args)
list_answer ArrayPush args = array_push args
list_answer ArrayPop args = array_pop args
list_answer ArrayShift args = array_shift args
list_answer ArrayUnshift args = array_unshift args
list_answer ArraySlice args = left args (array_slice args)
list_answer ArrayReverse args = left args (array_reverse args)
list_answer ArraySum args = left args (array_sum args)
list_answer ArrayFlip args = left args (array_flip args)
list_answer ArrayUnique args = left args (array_unique args)
list_answer Range args = left args (range_call args)
list_answer Max args = left args (extreme_call Greatest args)
list_answer Min args = left args (extreme_call Least args)
list_answer Sort args = sorted_list Rising args
list_answer Rsort args = sorted_list Falling args
list_answer Asort args = sorted_array Rising ByValue args
list_answer Arsort args = sorted_array Falling ByValue args
list_answer Ksort args = sorted_array Rising ByKey args
list_answer Krsort args = sorted_array Falling ByKey args

-- whether a call may change its first argument
abbrev pub changes_first : ListCall → Bool
changes_first ArrayPush = true
changes_first ArrayPop = true
changes_first ArrayShift = true
changes_first ArrayUnshift = true
changes_first Sort = true
changes_first Rsort = true
changes_first Asort = true
changes_first Arsort = true
changes_first Ksort = true
changes_first Krsort = true
changes_first _ = false

-- ---- names

abbrev pub look_named : List ℕ → Option ListCall
look_named name =
    if bytes_eq name (codes "count") then Some Count else
    if bytes_eq name (codes "in_array") then Some InArray else
    if bytes_eq name (codes "array_search") then Some ArraySearch else
    if bytes_eq name (codes "array_key_exists") then Some ArrayKeyExists else
    None

abbrev pub part_named : List ℕ → Option ListCall
part_named name =
    if bytes_eq name (codes "array_keys") then Some ArrayKeys else
    if bytes_eq name (codes "array_values") then Some ArrayValues else
    if bytes_eq name (codes "array_merge") then Some ArrayMerge else
    if bytes_eq name (codes "array_slice") then Some ArraySlice else
    if bytes_eq name (codes "array_reverse") then Some ArrayReverse else
    None

abbrev pub number_named : List ℕ → Option ListCall
number_named name =
    if bytes_eq name (codes "array_sum") then Some ArraySum else
    if bytes_eq name (codes "range") then Some Range else
    if bytes_eq name (codes "max") then Some Max else
    if bytes_eq name (codes "min") then Some Min else
    if bytes_eq name (codes "array_flip") then Some ArrayFlip else
    if bytes_eq name (codes "array_unique") then Some ArrayUnique else
    None

abbrev pub end_named : List ℕ → Option ListCall
end_named name =
    if bytes_eq name (codes "array_push") then Some ArrayPush else
    if bytes_eq name (codes "array_pop") then Some ArrayPop else
    if bytes_eq name (codes "array_shift") then Some ArrayShift else
    if bytes_eq name (codes "array_unshift") then Some ArrayUnshift else
    None

abbrev pub order_named : List ℕ → Option ListCall
order_named name =
    if bytes_eq name (codes "sort") then Some Sort else
    if bytes_eq name (codes "rsort") then Some Rsort else
    if bytes_eq name (codes "asort") then Some Asort else
    if bytes_eq name (codes "arsort") then Some Arsort else
    if bytes_eq name (codes "ksort") then Some Ksort else
    if bytes_eq name (codes "krsort") then Some Krsort else
    None

abbrev pub or_else : Option ListCall → Option ListCall → Option ListCall
or_else None b = b
or_else (Some c) b = Some c

-- the call of a name in lower case
abbrev pub call_named : List ℕ → Option ListCall
call_named name = or_else (look_named name) (or_else (part_named name) (or_else (number_named name) (or_else (end_named name) (order_named name))))
