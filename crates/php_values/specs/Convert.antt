-- Conversions to truth, text, number and key.
use Rattle.std.specs.Prelude.{List, [], ◌∷◌, ℕ, ◌+◌, ◌-◌, ◌*◌, ◌^◌, ℤ, pos, negsuc, neg_ℤ, Bool, true, false, not, ◌&&◌, ◌||◌, ◌==◌, nat_lt, nat_le, length, drop, take, codes, if◌then◌else◌}
use Rattle.std.specs.declared.option.Option.{Option}
use Rattle.std.specs.declared.option.Option.TheVariants.{Some, None}
pub use Rattle.std.specs.declared.result.Result.TheVariants.{Ok, Err}
use Rattle.std.specs.List.{prefix_len, list_all}
use Rattle.std.specs.Str.{bytes_eq}
use Rattle.std.specs.Fmt.{signed_decimal}
use Rattle.order_map.specs.declared.key.Key.{Key}
use Rattle.order_map.specs.declared.key.Key.TheVariants.{Int, Text}
use Rattle.php_values.specs.declared.fault.ValueFault.TheVariants.{Float, Kind}
use Rattle.php_values.specs.declared.number.Number.{Number}
use Rattle.php_values.specs.declared.number.Number.TheVariants.{Missing, Whole, FloatForm}
use Rattle.php_values.specs.Data.{Data, null, truth, int, bytes, array, object, array_pairs, Pairs, no_pairs, pair}
use Rattle.php_values.specs.Answers.{Answer}

-- ---- the bytes of numbers

-- a space, tab, LF, VT, FF or CR
abbrev pub is_white : ℕ → Bool
is_white b = b == 32 || (nat_le 9 b && nat_le b 13)

abbrev pub is_digit : ℕ → Bool
is_digit b = nat_le 48 b && nat_le b 57

-- `+` or `-`
abbrev pub is_sign : ℕ → Bool
is_sign b = b == 43 || b == 45

abbrev pub is_minus : ℕ → Bool
is_minus b = b == 45

-- whether a text begins with a byte of a kind
abbrev pub begins : (ℕ → Bool) → List ℕ → Bool
begins kind [] = false
begins kind (b ∷ t) = kind b

-- a text without the bytes of a kind that it begins with
abbrev pub after_all : (ℕ → Bool) → List ℕ → List ℕ
after_all kind t = drop (prefix_len kind t) t

-- a text without the one byte of a kind that it begins with, if it does
abbrev pub after_one : (ℕ → Bool) → List ℕ → List ℕ
after_one kind t = if begins kind t then drop 1 t else t

-- the number that digits make, behind those that made n
abbrev pub digits_from : ℕ → List ℕ → ℕ
digits_from n [] = n
digits_from n (d ∷ ds) = digits_from (n * 10 + (d - 48)) ds

-- a number of 64 bits with its sign, or none
abbrev pub signed : Bool → ℕ → Option ℤ
signed false n = if nat_lt n (2 ^ 63) then Some (pos n) else None
signed true n = if nat_le n (2 ^ 63) then Some (neg_ℤ (pos n)) else None

-- ---- the leading number of a text

abbrev pub is_point : ℕ → Bool
is_point b = b == 46

abbrev pub is_exponent_mark : ℕ → Bool
is_exponent_mark b = b == 101 || b == 69

-- whether a text begins with digits, or with a point and digits
abbrev pub begins_number : List ℕ → Bool
begins_number t = begins is_digit t || (begins is_point t && begins is_digit (drop 1 t))

-- whether a text begins with an exponent: its mark, a sign or none, and digits
abbrev pub begins_exponent : List ℕ → Bool
begins_exponent t = begins is_exponent_mark t && begins is_digit (after_one is_sign (drop 1 t))

-- what stands behind white space and a sign
abbrev pub unsigned_part : List ℕ → List ℕ
unsigned_part t = after_one is_sign (after_all is_white t)

abbrev pub is_negative : List ℕ → Bool
is_negative t = begins is_minus (after_all is_white t)

-- what stands behind the digits of a number without a sign, and behind its point with the digits there
abbrev pub after_whole : List ℕ → List ℕ
after_whole t = after_all is_digit t

abbrev pub after_fraction : List ℕ → List ℕ
after_fraction t = if begins is_point (after_whole t) then after_all is_digit (drop 1 (after_whole t)) else after_whole t

-- whether such a number has a point or an exponent
abbrev pub has_float_form : List ℕ → Bool
has_float_form t = begins is_point (after_whole t) || begins_exponent (after_whole t)

-- what stands behind the whole number
abbrev pub after_number : List ℕ → List ℕ
after_number t = if begins_exponent (after_fraction t) then after_all is_digit (after_one is_sign (drop 1 (after_fraction t))) else after_fraction t

abbrev pub whole_or_float : Option ℤ → Number
whole_or_float (Some n) = Whole n
whole_or_float None = FloatForm

-- what stands of a text's number: whether there is one, whether it has a point or an exponent, and its value
abbrev pub number_by : Bool → Bool → Option ℤ → Number
number_by false form n = Missing
number_by true true n = FloatForm
number_by true false n = whole_or_float n

-- the digits that a text begins with
abbrev pub digits_of : List ℕ → List ℕ
digits_of t = take (prefix_len is_digit t) t

-- a text's leading number: it has float form where it has a point or an exponent, or is no number of 64 bits
unfoldable pub leading_number : List ℕ → Number
leading_number t =
    number_by (begins_number (unsigned_part t)) (has_float_form (unsigned_part t)) (signed (is_negative t) (digits_from 0 (digits_of (unsigned_part t))))

-- whether a text's leading number is the whole text
unfoldable pub is_numeric : List ℕ → Bool
is_numeric t = begins_number (unsigned_part t) && (length (after_number (unsigned_part t)) == 0)

-- the leading number, 0 where there is none
abbrev pub number_or_zero : Number → Answer ℤ
number_or_zero Missing = Ok (pos 0)
number_or_zero (Whole n) = Ok n
number_or_zero FloatForm = Err Float

-- ---- the table of conversions

abbrev pub has_pairs : Pairs → Bool
has_pairs no_pairs = false
has_pairs (pair k d ps) = true

-- whether a text is neither empty nor `0`
abbrev pub text_truth : List ℕ → Bool
text_truth [] = false
text_truth (b ∷ []) = not (b == 48)
text_truth (b ∷ c ∷ t) = true

abbrev pub truth_of : Data → Bool
truth_of null = false
truth_of (truth b) = b
truth_of (int (pos n)) = not (n == 0)
truth_of (int (negsuc n)) = true
truth_of (bytes t) = text_truth t
truth_of (array a) = has_pairs (array_pairs a)
truth_of (object n) = true

abbrev pub text_of : Data → Answer (List ℕ)
text_of null = Ok []
text_of (truth true) = Ok (codes "1")
text_of (truth false) = Ok []
text_of (int n) = Ok (signed_decimal n)
text_of (bytes t) = Ok t
text_of (array a) = Ok (codes "Array")
text_of (object n) = Err Kind

abbrev pub zero_or_one : Bool → ℤ
zero_or_one true = pos 1
zero_or_one false = pos 0

abbrev pub int_of : Data → Answer ℤ
int_of null = Ok (pos 0)
int_of (truth b) = Ok (zero_or_one b)
int_of (int n) = Ok n
int_of (bytes t) = number_or_zero (leading_number t)
int_of (array a) = Ok (zero_or_one (has_pairs (array_pairs a)))
int_of (object n) = Err Kind

abbrev pub is_nonzero : ℕ → Bool
is_nonzero b = nat_le 49 b

abbrev pub normal_from : Bool → List ℕ → Option ℤ
normal_from negative t = if begins is_nonzero t && list_all is_digit t then signed negative (digits_from 0 t) else None

-- the number of 64 bits whose decimal text this is, without a sign but `-` and without a leading zero
unfoldable pub normal_number : List ℕ → Option ℤ
normal_number t =
    if bytes_eq t (codes "0") then Some (pos 0)
    else normal_from (begins is_minus t) (after_one is_minus t)

abbrev pub text_key : Option ℤ → List ℕ → Key
text_key (Some n) t = Int n
text_key None t = Text t

abbrev pub key_of : Data → Answer Key
key_of null = Ok (Text [])
key_of (truth b) = Ok (Int (zero_or_one b))
key_of (int n) = Ok (Int n)
key_of (bytes t) = Ok (text_key (normal_number t) t)
key_of (array a) = Err Kind
key_of (object n) = Err Kind
