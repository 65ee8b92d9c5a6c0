-- What `sprintf` prints: bytes as they stand, `%%`, and fields `%s` and `%d`, each with at most one of the marks `-` and `0`,
-- and then at most one width of 1 to 1,000 without a leading zero.
use Rattle.std.specs.Prelude.{◌≡◌, ◌≢◌, List, [], ◌∷◌, ◌++◌, ℕ, zero, suc, ◌+◌, ◌-◌, ℤ, pos, negsuc, Bool, true, false, not, ◌&&◌, ◌||◌, ◌==◌, nat_le, length, take, drop, if◌then◌else◌}
use Rattle.std.specs.declared.option.Option.{Option}
use Rattle.std.specs.declared.option.Option.TheVariants.{Some, None}
use Rattle.std.specs.List.{prefix_len}
use Rattle.std.specs.Fmt.{signed_decimal}
use Rattle.bstr.specs.Text.{repeated}
use Rattle.php_values.specs.declared.value.Value.{Value}
use Rattle.std.specs.Borrow.{Bor}
use Rattle.php_values.specs.Data.{Data, bytes}
use Rattle.php_values.specs.Convert.{begins, after_one, after_all, digits_of, is_digit, is_minus, normal_number}
use Rattle.php_arguments.specs.declared.fault.CallFault.{CallFault}
use Rattle.php_arguments.specs.declared.fault.CallFault.TheVariants.{Mistyped, Memory}
use Rattle.php_arguments.specs.Answers.{CallAnswer, Result, Ok, Err, go_on, datas}
use Rattle.php_arguments.specs.Arguments.{text_row, int_row}
pub use Rattle.php_text_calls.specs.Sizes.{grown, GivesGrown}
use Rattle.php_text_calls.specs.declared.format.Fill.{Fill}
use Rattle.php_text_calls.specs.declared.format.Fill.TheVariants.{SpacesBefore, SpacesBehind, ZerosBefore}
use Rattle.php_text_calls.specs.declared.format.FieldKind.{FieldKind}
use Rattle.php_text_calls.specs.declared.format.FieldKind.TheVariants.{TextField, NumberField}

-- ---- the field that stands behind a `%`

abbrev pub is_mark : ℕ → Bool
is_mark b = b == 45 || b == 48

-- `-`: spaces behind the text; `0`: zeros before it; none: spaces before it
abbrev pub fill_of : List ℕ → Fill
fill_of [] = SpacesBefore
fill_of (b ∷ t) = if b == 45 then SpacesBehind else (if b == 48 then ZerosBefore else SpacesBefore)

abbrev pub behind_mark : List ℕ → List ℕ
behind_mark t = after_one is_mark t

abbrev pub width_within : Option ℤ → CallAnswer ℕ
width_within None = Err Mistyped
width_within (Some (pos n)) = if nat_le 1 n && nat_le n 1000 then Ok n else Err Mistyped
width_within (Some (negsuc n)) = Err Mistyped

-- the width of the digits that stand there, 0 where there are none
abbrev pub width_by : List ℕ → CallAnswer ℕ
width_by digits = if length digits == 0 then Ok 0 else width_within (normal_number digits)

abbrev pub width_of : List ℕ → CallAnswer ℕ
width_of t = width_by (digits_of (behind_mark t))

abbrev pub behind_width : List ℕ → List ℕ
behind_width t = after_all is_digit (behind_mark t)

-- `s` or `d`
abbrev pub kind_by : List ℕ → CallAnswer FieldKind
kind_by [] = Err Mistyped
kind_by (b ∷ t) = if b == 115 then Ok TextField else (if b == 100 then Ok NumberField else Err Mistyped)

abbrev pub kind_of : List ℕ → CallAnswer FieldKind
kind_of t = kind_by (behind_width t)

abbrev pub behind_field : List ℕ → List ℕ
behind_field t = drop 1 (behind_width t)

-- ---- what a field prints of a value

abbrev pub spaces : ℕ → List ℕ
spaces n = repeated n (32 ∷ [])

abbrev pub zeros : ℕ → List ℕ
zeros n = repeated n (48 ∷ [])

-- a text in a field of a width; one that is as long or longer stays
abbrev pub text_in : Fill → ℕ → List ℕ → List ℕ
text_in SpacesBefore width t = spaces (width - length t) ++ t
text_in SpacesBehind width t = t ++ spaces (width - length t)
text_in ZerosBefore width t = zeros (width - length t) ++ t

-- a text that begins with a minus sign, with zeros behind the sign
abbrev pub minus_first : ℕ → List ℕ → List ℕ
minus_first width t = 45 ∷ text_in ZerosBefore (width - 1) (drop 1 t)

-- the same of a number's text, where zeros stand behind a minus sign
abbrev pub number_in : Fill → ℕ → List ℕ → List ℕ
number_in SpacesBefore width t = text_in SpacesBefore width t
number_in SpacesBehind width t = text_in SpacesBehind width t
number_in ZerosBefore width t = if begins is_minus t then minus_first width t else text_in ZerosBefore width t

-- what was printed with a field behind it
abbrev pub with_text : List ℕ → Fill → ℕ → Data → CallAnswer (List ℕ)
with_text out fill width d = go_on (text_row d) (λ t. grown out (text_in fill width t))

abbrev pub with_number : List ℕ → Fill → ℕ → Data → CallAnswer (List ℕ)
with_number out fill width d = go_on (int_row d) (λ n. grown out (number_in fill width (signed_decimal n)))

abbrev pub with_value : FieldKind → List ℕ → Fill → ℕ → Data → CallAnswer (List ℕ)
with_value TextField out fill width d = with_text out fill width d
with_value NumberField out fill width d = with_number out fill width d

abbrev pub with_field : List ℕ → List ℕ → Data → CallAnswer (List ℕ)
with_field out t d =
    go_on (width_of t) (λ width. go_on (kind_of t) (λ kind. with_value kind out (fill_of t) width d))

-- ---- the whole

-- what was printed so far, the format that is left, and the values that are left
pub record Printing : Type 0 where
  pub out : List ℕ
  pub format : List ℕ
  pub values : List Data

abbrev pub printing : List ℕ → List ℕ → List Data → Printing
printing out format values = record { out = out; format = format; values = values }

abbrev pub is_percent : ℕ → Bool
is_percent b = b == 37

abbrev pub is_plain : ℕ → Bool
is_plain b = not (is_percent b)

-- the bytes up to the next `%`
abbrev pub plain_step : List ℕ → List ℕ → List Data → CallAnswer Printing
plain_step out t values =
    go_on (grown out (take (prefix_len is_plain t) t)) (λ o. Ok (printing o (after_all is_plain t) values))

-- a field, which takes the next value; t stands behind its `%`
abbrev pub field_step : List ℕ → List ℕ → List Data → CallAnswer Printing
field_step out t [] = Err Mistyped
field_step out t (d ∷ values) = go_on (with_field out t d) (λ o. Ok (printing o (behind_field t) values))

-- `%%`, or a field
abbrev pub form_step : List ℕ → List ℕ → List Data → CallAnswer Printing
form_step out t values =
    if begins is_percent t then go_on (grown out (37 ∷ [])) (λ o. Ok (printing o (drop 1 t) values))
    else field_step out t values

abbrev pub step_by : List ℕ → List ℕ → List Data → CallAnswer Printing
step_by out [] values = Ok (printing out [] values)
step_by out (b ∷ t) values =
    if is_percent b then form_step out t values else plain_step out (b ∷ t) values

abbrev pub step : Printing → CallAnswer Printing
step p = step_by p.out p.format p.values

-- that many steps; each one takes at least a byte of the format, if there is one
unfoldable pub printed : ℕ → Printing → CallAnswer (List ℕ)
printed zero p = Ok p.out
printed (suc n) p = go_on (step p) (λ q. printed n q)

abbrev pub formatted : List ℕ → List Data → CallAnswer Data
formatted t values = go_on (printed (length t) (printing [] t values)) (λ out. Ok (bytes out))

-- a step that printed and gave what is left of the format and of the values, or a fault
abbrev pub GivesStep : CallAnswer Printing → List ℕ → Result (Bor (List ℕ) × Bor (List Value)) CallFault → Type 0
GivesStep expected out (Ok p) = expected ≡ Ok (printing out p.0.now (datas p.1.now))
GivesStep expected out (Err f) = f ≢ Memory → expected ≡ Err f
