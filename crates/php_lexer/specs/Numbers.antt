-- Whole numbers: what their digits mean, and which forms are left out.
use Rattle.std.specs.Prelude.{ℕ, ◌+◌, ◌*◌, ◌^◌, Bool, ◌==◌, ◌||◌, ◌&&◌, not, nat_le, [], ◌∷◌, length, slice_index, Option, Some, None, if◌then◌else◌, pos}
use Rattle.std.specs.Char.{is_ascii_digit, digit_value}
use Rattle.std.specs.List.{list_all}
use Rattle.php_lexer.specs.Bytes.{Text, is_in, run, cut}
use Rattle.php_lexer.specs.declared.bytes.Class.{Class}
use Rattle.php_lexer.specs.declared.bytes.Class.TheVariants.{Digit, Hex, Binary, Octal}
use Rattle.php_lexer.specs.declared.front.Front.{Front}
use Rattle.php_lexer.specs.declared.front.Front.TheVariants.{Token, Fault}
use Rattle.php_lexer.specs.declared.front.Simple.TheVariants.{Int}
use Rattle.php_lexer.specs.declared.fault.LexKind.TheVariants.{Form}
use Rattle.php_lexer.specs.declared.fault.FormName.TheVariants as name
use Rattle.php_lexer.specs.declared.number.TheConstants.{MAX_INT}

-- the value of digits: each counts by its place
abbrev pub value : ℕ → Text → ℕ
value base [] = 0
value base (d ∷ ds) = digit_value d * base ^ length ds + value base ds

-- the number, where it is at most the greatest
abbrev pub within : ℕ → ℕ → Option ℕ
within most n = if nat_le n most then Some n else None

abbrev pub int_of : Option ℕ → ℕ → Front
int_of (Some n) len = Token (Int (pos n)) len
int_of None len = Fault 0 (Form name.Float)

-- a number of so many bytes, from its digits
abbrev pub sized : ℕ → Text → ℕ → Front
sized base digits len = int_of (within MAX_INT (value base digits)) len

-- digits of a class after a prefix of two bytes
abbrev pub based : ℕ → Class → Text → Front
based base class z =
    if run class z 2 == 0 then Fault 0 (Form name.Number) else sized base (cut z 2 (run class z 2)) (run class z 2 + 2)

-- a point directly after the digits, or an exponent
abbrev pub is_fraction : Text → ℕ → Bool
is_fraction z at =
    let is_e = slice_index z at == 101 || slice_index z at == 69 in
    let is_signed = slice_index z (at + 1) == 43 || slice_index z (at + 1) == 45 in
    slice_index z at == 46 || (is_e && (is_ascii_digit (slice_index z (at + 1)) || (is_signed && is_ascii_digit (slice_index z (at + 2)))))

-- decimal digits; with a leading 0 they are octal
abbrev pub decimal : Text → Front
decimal z =
    let len = run Digit z 0 in
    let digits = cut z 0 len in
    if is_fraction z len then Fault 0 (Form name.Float)
    else (if len == 1 || not (slice_index z 0 == 48) then sized 10 digits len
    else (if list_all (is_in Octal) digits then sized 8 digits len else Fault 0 (Form name.Octal)))

unfoldable pub number : Text → Front
number z =
    let zero = slice_index z 0 == 48 in
    if zero && (slice_index z 1 == 120 || slice_index z 1 == 88) then based 16 Hex z
    else (if zero && (slice_index z 1 == 98 || slice_index z 1 == 66) then based 2 Binary z else decimal z)
