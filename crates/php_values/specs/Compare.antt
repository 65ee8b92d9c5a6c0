-- Comparisons: `==`, `<=>` and `===`.
use Rattle.std.specs.Prelude.{List, [], length, ℕ, ℤ, Bool, true, false, not, ◌&&◌, ◌==◌, if◌then◌else◌}
use Rattle.std.specs.declared.option.Option.{Option}
use Rattle.std.specs.declared.option.Option.TheVariants.{Some, None}
pub use Rattle.std.specs.declared.result.Result.TheVariants.{Ok, Err}
use Rattle.std.specs.Ordering.{int_eq, int_cmp, nat_cmp, bool_cmp}
use Rattle.std.specs.Cmp.Lexicographic.{slice_cmp}
use Rattle.std.specs.declared.cmp.Ordering.{Ordering}
use Rattle.std.specs.declared.cmp.Ordering.TheVariants.{Less, Equal, Greater}
use Rattle.std.specs.Str.{bytes_eq}
use Rattle.order_map.specs.declared.key.Key.{Key}
use Rattle.order_map.specs.Keys.{same_key}
use Rattle.php_values.specs.declared.fault.ValueFault.TheVariants.{Kind}
use Rattle.php_values.specs.Data.{Data, null, truth, int, bytes, array, object, ArrayData, of_pairs, array_pairs, count_of, Pairs, no_pairs, pair}
use Rattle.php_values.specs.Answers.{Answer, and_then}
use Rattle.php_values.specs.Convert.{leading_number, is_numeric, number_or_zero, text_truth, truth_of}

-- the value of a key, if it is there
abbrev pub value_of : Key → Pairs → Option Data
value_of key no_pairs = None
value_of key (pair k d ps) = if same_key k key then Some d else value_of key ps

-- what a value of the right answers, or that it is missing
abbrev pub in_right : {A : Type 0} → Answer A → (Data → Answer A) → Option Data → Answer A
in_right missing compared None = missing
in_right missing compared (Some d) = compared d

abbrev pub same_truth : Bool → Bool → Bool
same_truth true b = b
same_truth false b = not b

-- ---- numbers and texts

-- a number and a text: the text's leading number, or 0
abbrev pub equals_number : ℤ → List ℕ → Answer Bool
equals_number n t = and_then (number_or_zero (leading_number t)) (λ m. Ok (int_eq n m))

-- the numbers of two numeric texts
abbrev pub equal_numbers : List ℕ → List ℕ → Answer Bool
equal_numbers s t = and_then (number_or_zero (leading_number s)) (λ n. equals_number n t)

-- two texts: the same bytes, else the same number where both are numeric
abbrev pub equal_texts : List ℕ → List ℕ → Answer Bool
equal_texts s t = if bytes_eq s t then Ok true else (if is_numeric s && is_numeric t then equal_numbers s t else Ok false)

-- ---- `==` of two values that are not both arrays, by the left one's kind

abbrev pub null_equals : Data → Answer Bool
null_equals null = Ok true
null_equals (truth b) = Ok (not b)
null_equals (int n) = Ok (not (truth_of (int n)))
null_equals (bytes t) = Ok (length t == 0)
null_equals (array a) = Ok (not (truth_of (array a)))
null_equals (object n) = Ok false

abbrev pub int_equals : ℤ → Data → Answer Bool
int_equals m null = Ok (not (truth_of (int m)))
int_equals m (truth b) = Ok (same_truth b (truth_of (int m)))
int_equals m (int n) = Ok (int_eq m n)
int_equals m (bytes t) = equals_number m t
int_equals m (array a) = Ok false
int_equals m (object n) = Err Kind

abbrev pub text_equals : List ℕ → Data → Answer Bool
text_equals s null = Ok (length s == 0)
text_equals s (truth b) = Ok (same_truth b (text_truth s))
text_equals s (int n) = equals_number n s
text_equals s (bytes t) = equal_texts s t
text_equals s (array a) = Ok false
text_equals s (object n) = Err Kind

-- an array, of which only its truth counts
abbrev pub array_equals : Bool → Data → Answer Bool
array_equals full null = Ok (not full)
array_equals full (truth b) = Ok (same_truth b full)
array_equals full (int n) = Ok false
array_equals full (bytes t) = Ok false
array_equals full (array a) = Ok false
array_equals full (object n) = Ok false

abbrev pub same_object : ℕ → ℕ → Answer Bool
same_object m n = if m == n then Ok true else Err Kind

abbrev pub object_equals : ℕ → Data → Answer Bool
object_equals m null = Ok false
object_equals m (truth b) = Ok b
object_equals m (int n) = Err Kind
object_equals m (bytes t) = Err Kind
object_equals m (array a) = Ok false
object_equals m (object n) = same_object m n

abbrev pub equal_flat : Data → Data → Answer Bool
equal_flat null d = null_equals d
equal_flat (truth b) d = Ok (same_truth b (truth_of d))
equal_flat (int m) d = int_equals m d
equal_flat (bytes s) d = text_equals s d
equal_flat (array a) d = array_equals (truth_of (array a)) d
equal_flat (object m) d = object_equals m d

-- ---- `==`

-- the first answer, and the next one where it is yes
abbrev pub all_equal : Answer Bool → Answer Bool → Answer Bool
all_equal (Ok true) next = next
all_equal (Ok false) next = Ok false
all_equal (Err fault) next = Err fault

-- `==`: two arrays have as many pairs, and each key of the left is in the right with an equal value, in the left's order
-- and ending at the first difference
abbrev mutual
  pub loose_equal : Data → Data → Answer Bool
  loose_equal (array a) d = loose_array a d
  loose_equal null d = equal_flat null d
  loose_equal (truth b) d = equal_flat (truth b) d
  loose_equal (int n) d = equal_flat (int n) d
  loose_equal (bytes t) d = equal_flat (bytes t) d
  loose_equal (object n) d = equal_flat (object n) d

  pub loose_array : ArrayData → Data → Answer Bool
  loose_array (of_pairs ps next) (array b) = if count_of ps == count_of (array_pairs b) then loose_pairs ps (array_pairs b) else Ok false
  loose_array (of_pairs ps next) null = equal_flat (array (of_pairs ps next)) null
  loose_array (of_pairs ps next) (truth b) = equal_flat (array (of_pairs ps next)) (truth b)
  loose_array (of_pairs ps next) (int n) = equal_flat (array (of_pairs ps next)) (int n)
  loose_array (of_pairs ps next) (bytes t) = equal_flat (array (of_pairs ps next)) (bytes t)
  loose_array (of_pairs ps next) (object n) = equal_flat (array (of_pairs ps next)) (object n)

  pub loose_pairs : Pairs → Pairs → Answer Bool
  loose_pairs no_pairs qs = Ok true
  loose_pairs (pair k d ps) qs = all_equal (in_right (Ok false) (loose_equal d) (value_of k qs)) (loose_pairs ps qs)

-- ---- the order of numbers and texts

abbrev pub order_of_number : ℤ → List ℕ → Answer Ordering
order_of_number n t = and_then (number_or_zero (leading_number t)) (λ m. Ok (int_cmp n m))

abbrev pub order_to_number : List ℕ → ℤ → Answer Ordering
order_to_number t n = and_then (number_or_zero (leading_number t)) (λ m. Ok (int_cmp m n))

abbrev pub order_of_numbers : List ℕ → List ℕ → Answer Ordering
order_of_numbers s t = and_then (number_or_zero (leading_number s)) (λ n. order_of_number n t)

-- two texts: equal where the bytes are, else by their numbers where both are numeric, else by bytes
abbrev pub order_of_texts : List ℕ → List ℕ → Answer Ordering
order_of_texts s t = if bytes_eq s t then Ok Equal else (if is_numeric s && is_numeric t then order_of_numbers s t else Ok (slice_cmp nat_cmp s t))

-- ---- `<=>` of two values that are not both arrays, by the left one's kind; false stands before true

abbrev pub null_order : Data → Answer Ordering
null_order (bytes t) = Ok (slice_cmp nat_cmp [] t)
null_order null = Ok Equal
null_order (truth b) = Ok (bool_cmp false b)
null_order (int n) = Ok (bool_cmp false (truth_of (int n)))
null_order (array a) = Ok (bool_cmp false (truth_of (array a)))
null_order (object n) = Ok Less

abbrev pub int_order : ℤ → Data → Answer Ordering
int_order m null = Ok (bool_cmp (truth_of (int m)) false)
int_order m (truth b) = Ok (bool_cmp (truth_of (int m)) b)
int_order m (int n) = Ok (int_cmp m n)
int_order m (bytes t) = order_of_number m t
int_order m (array a) = Err Kind
int_order m (object n) = Err Kind

abbrev pub text_order : List ℕ → Data → Answer Ordering
text_order s null = Ok (slice_cmp nat_cmp s [])
text_order s (truth b) = Ok (bool_cmp (text_truth s) b)
text_order s (int n) = order_to_number s n
text_order s (bytes t) = order_of_texts s t
text_order s (array a) = Err Kind
text_order s (object n) = Err Kind

-- an array, of which only its truth counts, and an object, which counts as true
abbrev pub truth_order : Bool → Data → Answer Ordering
truth_order full null = Ok (bool_cmp full false)
truth_order full (truth b) = Ok (bool_cmp full b)
truth_order full (int n) = Err Kind
truth_order full (bytes t) = Err Kind
truth_order full (array a) = Err Kind
truth_order full (object n) = Err Kind

abbrev pub order_flat : Data → Data → Answer Ordering
order_flat null d = null_order d
order_flat (truth b) d = Ok (bool_cmp b (truth_of d))
order_flat (int m) d = int_order m d
order_flat (bytes s) d = text_order s d
order_flat (array a) d = truth_order (truth_of (array a)) d
order_flat (object m) d = truth_order true d

-- ---- `<=>`

-- the first answer, and the next one where it is equal
abbrev pub first_order : Answer Ordering → Answer Ordering → Answer Ordering
first_order (Ok Equal) next = next
first_order (Ok Less) next = Ok Less
first_order (Ok Greater) next = Ok Greater
first_order (Err fault) next = Err fault

abbrev pub by_count : Ordering → Answer Ordering → Answer Ordering
by_count Equal next = next
by_count Less next = Ok Less
by_count Greater next = Ok Greater

-- `<=>`: two arrays by their counts of pairs, then by the values at the left's keys
abbrev mutual
  pub order : Data → Data → Answer Ordering
  order (array a) d = order_array a d
  order null d = order_flat null d
  order (truth b) d = order_flat (truth b) d
  order (int n) d = order_flat (int n) d
  order (bytes t) d = order_flat (bytes t) d
  order (object n) d = order_flat (object n) d

  pub order_array : ArrayData → Data → Answer Ordering
  order_array (of_pairs ps next) (array b) = by_count (nat_cmp (count_of ps) (count_of (array_pairs b))) (order_pairs ps (array_pairs b))
  order_array (of_pairs ps next) null = order_flat (array (of_pairs ps next)) null
  order_array (of_pairs ps next) (truth b) = order_flat (array (of_pairs ps next)) (truth b)
  order_array (of_pairs ps next) (int n) = Err Kind
  order_array (of_pairs ps next) (bytes t) = Err Kind
  order_array (of_pairs ps next) (object n) = Err Kind

  pub order_pairs : Pairs → Pairs → Answer Ordering
  order_pairs no_pairs qs = Ok Equal
  order_pairs (pair k d ps) qs = first_order (in_right (Err Kind) (order d) (value_of k qs)) (order_pairs ps qs)

-- ---- `===`

-- the same kind and the same value, where not both are arrays
abbrev pub same_flat : Data → Data → Bool
same_flat null null = true
same_flat (truth a) (truth b) = same_truth a b
same_flat (int m) (int n) = int_eq m n
same_flat (bytes s) (bytes t) = bytes_eq s t
same_flat (object m) (object n) = m == n
same_flat a b = false

-- `===`: two arrays have the same pairs in the same order
abbrev mutual
  pub strict_same : Data → Data → Bool
  strict_same (array a) d = strict_array a d
  strict_same null d = same_flat null d
  strict_same (truth b) d = same_flat (truth b) d
  strict_same (int n) d = same_flat (int n) d
  strict_same (bytes t) d = same_flat (bytes t) d
  strict_same (object n) d = same_flat (object n) d

  pub strict_array : ArrayData → Data → Bool
  strict_array (of_pairs ps next) (array b) = strict_pairs ps (array_pairs b)
  strict_array (of_pairs ps next) d = false

  pub strict_pairs : Pairs → Pairs → Bool
  strict_pairs no_pairs no_pairs = true
  strict_pairs no_pairs (pair k e qs) = false
  strict_pairs (pair k d ps) no_pairs = false
  strict_pairs (pair k d ps) (pair j e qs) = same_key k j && (strict_same d e && strict_pairs ps qs)
