-- Bytes that HTML and URLs write in another way.
use Rattle.std.specs.Prelude.{List, [], ◌∷◌, ℕ, ◌+◌, ◌/◌, ◌%◌, ℤ, pos, negsuc, Bool, true, false, ◌&&◌, ◌||◌, ◌==◌, nat_lt, nat_le, codes, if◌then◌else◌}
use Rattle.std.specs.List.{flat_map}
use Rattle.std.specs.Ordering.{int_eq}
use Rattle.php_values.specs.Data.{Data}
use Rattle.php_values.specs.Convert.{is_digit}
use Rattle.php_arguments.specs.declared.fault.CallFault.TheVariants.{Mistyped}
use Rattle.php_arguments.specs.Answers.{CallAnswer, Ok, Err}
use Rattle.php_arguments.specs.Results.{sized_text}
use Rattle.php_text_calls.specs.declared.escape.Escape.{Escape}
use Rattle.php_text_calls.specs.declared.escape.Escape.TheVariants.{NoQuotes, DoubleQuotes, AllQuotes, UrlForm, UrlRaw}

-- ---- HTML

-- `&`, `<` and `>`, whatever is done with quotes
abbrev pub html_byte : ℕ → List ℕ
html_byte b =
    if b == 38 then codes "&amp;" else (if b == 60 then codes "&lt;" else (if b == 62 then codes "&gt;" else b ∷ []))

abbrev pub html_double : ℕ → List ℕ
html_double b = if b == 34 then codes "&quot;" else html_byte b

abbrev pub html_all : ℕ → List ℕ
html_all b = if b == 39 then codes "&#039;" else html_double b

-- ---- URLs

abbrev pub is_letter : ℕ → Bool
is_letter b = (nat_le 65 b && nat_le b 90) || (nat_le 97 b && nat_le b 122)

-- letters, digits, `-`, `_` and `.` stay
abbrev pub stays : ℕ → Bool
stays b = is_letter b || (is_digit b || (b == 45 || (b == 95 || b == 46)))

-- a digit of base 16, upper case
abbrev pub hex_digit : ℕ → ℕ
hex_digit n = if nat_lt n 10 then 48 + n else 55 + n

abbrev pub percent_byte : ℕ → List ℕ
percent_byte b = 37 ∷ hex_digit (b / 16) ∷ hex_digit (b % 16) ∷ []

-- a space becomes `+`
abbrev pub url_form_byte : ℕ → List ℕ
url_form_byte b = if stays b then b ∷ [] else (if b == 32 then 43 ∷ [] else percent_byte b)

-- `~` stays too
abbrev pub url_raw_byte : ℕ → List ℕ
url_raw_byte b = if stays b || b == 126 then b ∷ [] else percent_byte b

-- ---- both

abbrev pub escaped_byte : Escape → ℕ → List ℕ
escaped_byte NoQuotes b = html_byte b
escaped_byte DoubleQuotes b = html_double b
escaped_byte AllQuotes b = html_all b
escaped_byte UrlForm b = url_form_byte b
escaped_byte UrlRaw b = url_raw_byte b

-- a text with each byte written as the escape writes it
abbrev pub escaped : Escape → List ℕ → CallAnswer Data
escaped escape t = sized_text (flat_map (escaped_byte escape) t)

-- the escapes of HTML by their flag: 0 without quotes, 2 with double quotes, 3 with both kinds
abbrev pub html_escape : ℤ → CallAnswer Escape
html_escape flag =
    if int_eq flag (pos 0) then Ok NoQuotes
    else (if int_eq flag (pos 2) then Ok DoubleQuotes else (if int_eq flag (pos 3) then Ok AllQuotes else Err Mistyped))
