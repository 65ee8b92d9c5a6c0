-- Values that are sought in arrays, and parts of arrays.
use Rattle.std.specs.Prelude.{List, [], ◌∷◌, ℕ, ◌+◌, ◌-◌, ℤ, pos, negsuc, Bool, false, length, take, drop, if◌then◌else◌}
use Rattle.std.specs.declared.option.Option.{Option}
use Rattle.std.specs.declared.option.Option.TheVariants.{Some, None}
use Rattle.order_map.specs.declared.key.Key.{Key}
use Rattle.php_values.specs.Data.{Data, truth}
use Rattle.php_values.specs.Convert.{truth_of}
use Rattle.php_values.specs.Compare.{loose_equal, strict_same}
use Rattle.php_arguments.specs.Answers.{CallAnswer, Ok, Err, as_call, go_on}
use Rattle.php_list_calls.specs.Items.{Item, key_value}

-- ---- a value that is sought

-- a truth, or what stands for it where it is left out
abbrev pub truth_or : Bool → Option Data → Bool
truth_or b None = b
truth_or b (Some d) = truth_of d

-- whether two values are equal by `===`, or else by `==`
abbrev pub alike : Bool → Data → Data → CallAnswer Bool
alike strict a b = if strict then Ok (strict_same a b) else as_call (loose_equal a b)

-- the key of the first item whose value passes a test
abbrev pub key_where : (Data → CallAnswer Bool) → List Item → CallAnswer (Option Key)
key_where test [] = Ok None
key_where test (e ∷ es) = go_on (test e.1) (λ yes. if yes then Ok (Some e.0) else key_where test es)

abbrev pub key_or_false : Option Key → Data
key_or_false None = truth false
key_or_false (Some k) = key_value k

-- ---- a slice

-- where a slice of n items begins: a negative start is counted from the end, and is at least 0
abbrev pub slice_start : ℕ → ℤ → ℕ
slice_start n (pos i) = i
slice_start n (negsuc i) = n - (i + 1)

-- how many of the n items from there on it takes: all without a count, and all but so many by a negative one
abbrev pub slice_count : ℕ → Option ℤ → ℕ
slice_count n None = n
slice_count n (Some (pos k)) = k
slice_count n (Some (negsuc k)) = n - (k + 1)

abbrev pub counted_slice : List Item → Option ℤ → List Item
counted_slice rest count = take (slice_count (length rest) count) rest

abbrev pub slice : List Item → ℤ → Option ℤ → List Item
slice es start count = counted_slice (drop (slice_start (length es) start) es) count
