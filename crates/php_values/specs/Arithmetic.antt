-- Arithmetic on values.
use Rattle.std.specs.Prelude.{List, ◌++◌, ℕ, ◌+◌, ◌^◌, ℤ, pos, negsuc, ◌+ℤ◌, ◌-ℤ◌, ◌*ℤ◌, Bool, nat_lt, nat_le, length, int_div, int_rem, if◌then◌else◌}
use Rattle.std.specs.declared.option.Option.{Option}
use Rattle.std.specs.declared.option.Option.TheVariants.{Some, None}
use Rattle.std.specs.declared.result.Result.TheVariants.{Ok, Err}
use Rattle.std.specs.Ordering.{int_eq}
use Rattle.order_map.specs.declared.key.Key.{Key}
use Rattle.order_map.specs.Keys.{next_after}
use Rattle.php_values.specs.declared.fault.ValueFault.TheVariants.{Float, Kind, Size, Zero}
use Rattle.php_values.specs.declared.op.ArithOp.{ArithOp}
use Rattle.php_values.specs.declared.op.ArithOp.TheVariants.{Add, Subtract, Multiply, Divide, Remainder, Join}
use Rattle.php_values.specs.Data.{Data, null, truth, int, bytes, array, object, ArrayData, of_pairs, count_of, Pairs, no_pairs, pair}
use Rattle.php_values.specs.Answers.{Answer, and_then}
use Rattle.php_values.specs.Convert.{leading_number, number_or_zero, zero_or_one, text_of}
use Rattle.php_values.specs.Compare.{value_of}

-- the greatest length of a text, and the greatest count of pairs of an array
abbrev pub max_text : ℕ
max_text = 2 ^ 20

abbrev pub max_pairs : ℕ
max_pairs = 100000

abbrev pub fits : ℤ → Bool
fits (pos n) = nat_lt n (2 ^ 63)
fits (negsuc n) = nat_lt n (2 ^ 63)

-- a number of 64 bits
abbrev pub fitting : ℤ → Answer Data
fitting n = if fits n then Ok (int n) else Err Float

-- the number of an operand: the row of conversions to a number, but no array
abbrev pub operand : Data → Answer ℤ
operand null = Ok (pos 0)
operand (truth b) = Ok (zero_or_one b)
operand (int n) = Ok n
operand (bytes t) = number_or_zero (leading_number t)
operand (array a) = Err Kind
operand (object n) = Err Kind

-- two operands, the left one first
abbrev pub with_operands : Data → Data → (ℤ → ℤ → Answer Data) → Answer Data
with_operands a b go = and_then (operand a) (λ m. and_then (operand b) (λ n. go m n))

abbrev pub sum : ℤ → ℤ → Answer Data
sum m n = fitting (m +ℤ n)

abbrev pub difference : ℤ → ℤ → Answer Data
difference m n = fitting (m -ℤ n)

abbrev pub product : ℤ → ℤ → Answer Data
product m n = fitting (m *ℤ n)

-- the exact quotient
abbrev pub quotient : ℤ → ℤ → Answer Data
quotient m n =
    if int_eq n (pos 0) then Err Float
    else (if int_eq (int_rem m n) (pos 0) then fitting (int_div m n) else Err Float)

-- the rest of the quotient that is cut towards 0
abbrev pub remainder : ℤ → ℤ → Answer Data
remainder m n = if int_eq n (pos 0) then Err Zero else Ok (int (int_rem m n))

-- two texts joined, where they are not too long together
abbrev pub sized_join : List ℕ → List ℕ → Answer Data
sized_join s t = if nat_le (length s + length t) max_text then Ok (bytes (s ++ t)) else Err Size

abbrev pub joined : Data → Data → Answer Data
joined a b = and_then (text_of a) (λ s. and_then (text_of b) (λ t. sized_join s t))

-- a pair behind others
abbrev pub put_last : Key → Data → Pairs → Pairs
put_last key d no_pairs = pair key d no_pairs
put_last key d (pair k e ps) = pair k e (put_last key d ps)

abbrev pub added_pair : Key → Data → ArrayData → ArrayData
added_pair key d (of_pairs ps next) = of_pairs (put_last key d ps) (next_after key next)

abbrev pub added_if_missing : Option Data → Key → Data → ArrayData → ArrayData
added_if_missing (Some e) key d a = a
added_if_missing None key d a = added_pair key d a

abbrev pub value_in : Key → ArrayData → Option Data
value_in key (of_pairs ps next) = value_of key ps

-- an array with the pairs of others whose keys it lacks, behind its own
abbrev pub with_missing : ArrayData → Pairs → ArrayData
with_missing a no_pairs = a
with_missing a (pair k d ps) = with_missing (added_if_missing (value_in k a) k d a) ps

abbrev pub sized_array : ArrayData → Answer Data
sized_array (of_pairs ps next) = if nat_le (count_of ps) max_pairs then Ok (array (of_pairs ps next)) else Err Size

abbrev pub union : ArrayData → ArrayData → Answer Data
union a (of_pairs qs next) = sized_array (with_missing a qs)

abbrev pub sum_of : Data → Data → Answer Data
sum_of (array a) (array b) = union a b
sum_of a b = with_operands a b sum

abbrev pub arithmetic : ArithOp → Data → Data → Answer Data
arithmetic Add a b = sum_of a b
arithmetic Subtract a b = with_operands a b difference
arithmetic Multiply a b = with_operands a b product
arithmetic Divide a b = with_operands a b quotient
arithmetic Remainder a b = with_operands a b remainder
arithmetic Join a b = joined a b
