-- What each library call on texts gives.
use Rattle.std.specs.Prelude.{◌≡◌, ◌≢◌, List, [], ◌∷◌, ℕ, ◌+◌, ℤ, pos, negsuc, Bool, true, false, ◌||◌, ◌==◌, length, reverse, codes, int_div, if◌then◌else◌}
use Rattle.std.specs.declared.option.Option.{Option}
use Rattle.std.specs.declared.option.Option.TheVariants.{Some, None}
use Rattle.std.specs.Str.{bytes_eq}
use Rattle.std.specs.Ordering.{int_eq}
use Rattle.php_values.specs.Data.{Data, null, truth, int, bytes, array, object, ArrayData, array_pairs}
use Rattle.php_values.specs.Convert.{is_numeric}
use Rattle.php_values.specs.Arithmetic.{fits}
use Rattle.php_arguments.specs.declared.fault.CallFault.TheVariants.{Mistyped, Zero, Range}
pub use Rattle.php_arguments.specs.Answers.{CallAnswer, Result, Ok, Err, go_on, GivesAnswer, GivesValue, datas}
use Rattle.php_arguments.specs.Arguments.{one, two, three, one_or_two, two_or_three, two_to_four, one_and_more, text_argument, int_argument, array_argument, text_row, int_row, int_or, int_if_given, text_or}
use Rattle.php_arguments.specs.Results.{sized_text}
use Rattle.php_text_calls.specs.Letters.{lower, upper, first_upper, left_trimmed, right_trimmed, trimmed, first_byte, byte_of, all_digits, text_order}
use Rattle.php_text_calls.specs.Parts.{slice, place_of, last_slash, before_slash, behind_slash}
use Rattle.php_text_calls.specs.Pieces.{exploded, replaced, imploded, repetition, padded}
use Rattle.php_text_calls.specs.Escapes.{escaped, html_escape}
use Rattle.php_text_calls.specs.Formats.{formatted}
use Rattle.php_text_calls.specs.declared.escape.Escape.TheVariants.{UrlForm, UrlRaw}
use Rattle.php_arguments.specs.declared.fault.CallFault.{CallFault}
use Rattle.php_arguments.specs.declared.fault.CallFault.TheVariants.{Memory}
use Rattle.php_text_calls.specs.declared.arguments.Texts.{Texts}
use Rattle.php_text_calls.specs.declared.call.TextCall.{TextCall}
use Rattle.php_text_calls.specs.declared.call.TextCall.TheVariants.{Strlen, Strtolower, Strtoupper, Ucfirst, Trim, Ltrim, Rtrim, Substr, Strpos, StrReplace, StrRepeat, StrPad, Strrev, Ord, Chr, Strcmp, Explode, Implode, Join, Htmlspecialchars, Urlencode, Rawurlencode, Sprintf, Intval, Strval, IsNumeric, IsInt, IsString, IsBool, IsArray, IsNull, IsObject, CtypeDigit, Intdiv, Dirname, Basename}

-- ---- the arguments

-- the text of the only argument
abbrev pub only_text : List Data → CallAnswer (List ℕ)
only_text args = go_on (one args) (λ a. text_argument a)

-- the texts of both arguments
abbrev pub both_texts : List Data → CallAnswer Texts
both_texts args =
    go_on (two args) (λ p.
    go_on (text_argument p.first) (λ s.
    go_on (text_argument p.second) (λ t. Ok (record { left = s; right = t }))))

abbrev pub GivesTexts : CallAnswer Texts → Result Texts CallFault → Type 0
GivesTexts expected (Ok p) = expected ≡ Ok p
GivesTexts expected (Err f) = f ≢ Memory → expected ≡ Err f

-- ---- answers of one text

abbrev pub strlen : List Data → CallAnswer Data
strlen args = go_on (only_text args) (λ t. Ok (int (pos (length t))))

-- a text that is made of the only argument's text
abbrev pub changed : (List ℕ → List ℕ) → List Data → CallAnswer Data
changed change args = go_on (only_text args) (λ t. Ok (bytes (change t)))

abbrev pub ord : List Data → CallAnswer Data
ord args = go_on (only_text args) (λ t. Ok (int (pos (first_byte t))))

abbrev pub chr : List Data → CallAnswer Data
chr args = go_on (one args) (λ a. go_on (int_argument a) (λ n. Ok (bytes (byte_of n ∷ []))))

abbrev pub dirname : List ℕ → List ℕ
dirname t = before_slash t (last_slash t)

abbrev pub basename : List ℕ → List ℕ
basename t = behind_slash t (last_slash t)

abbrev pub url_form : List Data → CallAnswer Data
url_form args = go_on (only_text args) (λ t. escaped UrlForm t)

abbrev pub url_raw : List Data → CallAnswer Data
url_raw args = go_on (only_text args) (λ t. escaped UrlRaw t)

-- ---- answers of several arguments

abbrev pub substr : List Data → CallAnswer Data
substr args =
    go_on (two_or_three args) (λ p.
    go_on (text_argument p.first) (λ t.
    go_on (int_argument p.second) (λ i.
    go_on (int_if_given p.third) (λ n. Ok (slice t i n)))))

abbrev pub strpos : List Data → CallAnswer Data
strpos args =
    go_on (two_or_three args) (λ p.
    go_on (text_argument p.first) (λ t.
    go_on (text_argument p.second) (λ needle.
    go_on (int_or (pos 0) p.third) (λ i. Ok (place_of t needle i)))))

abbrev pub str_replace : List Data → CallAnswer Data
str_replace args =
    go_on (three args) (λ p.
    go_on (text_argument p.first) (λ search.
    go_on (text_argument p.second) (λ by.
    go_on (text_argument p.third) (λ t. sized_text (replaced search by t)))))

abbrev pub str_repeat : List Data → CallAnswer Data
str_repeat args =
    go_on (two args) (λ p.
    go_on (text_argument p.first) (λ t.
    go_on (int_argument p.second) (λ n. repetition t n)))

abbrev pub str_pad : List Data → CallAnswer Data
str_pad args =
    go_on (two_to_four args) (λ p.
    go_on (text_argument p.first) (λ t.
    go_on (int_argument p.second) (λ n.
    go_on (text_or (codes " ") p.third) (λ pad.
    go_on (int_or (pos 1) p.fourth) (λ side. padded t n pad side)))))

abbrev pub strcmp : List Data → CallAnswer Data
strcmp args = go_on (both_texts args) (λ p. Ok (int (text_order p.left p.right)))

abbrev pub explode : List Data → CallAnswer Data
explode args = go_on (both_texts args) (λ p. exploded p.left p.right)

abbrev pub implode : List Data → CallAnswer Data
implode args =
    go_on (two args) (λ p.
    go_on (text_argument p.first) (λ glue.
    go_on (array_argument p.second) (λ a. imploded glue (array_pairs a))))

abbrev pub htmlspecialchars : List Data → CallAnswer Data
htmlspecialchars args =
    go_on (one_or_two args) (λ p.
    go_on (text_argument p.first) (λ t.
    go_on (int_or (pos 2) p.second) (λ flag.
    go_on (html_escape flag) (λ escape. escaped escape t))))

abbrev pub sprintf : List Data → CallAnswer Data
sprintf args =
    go_on (one_and_more args) (λ p.
    go_on (text_argument p.first) (λ t. formatted t p.rest))

-- the quotient that is cut towards 0
abbrev pub quotient : ℤ → ℤ → CallAnswer Data
quotient m n =
    if int_eq n (pos 0) then Err Zero
    else (if fits (int_div m n) then Ok (int (int_div m n)) else Err Range)

abbrev pub intdiv : List Data → CallAnswer Data
intdiv args =
    go_on (two args) (λ p.
    go_on (int_argument p.first) (λ m.
    go_on (int_argument p.second) (λ n. quotient m n)))

-- ---- conversions and kinds

abbrev pub intval : List Data → CallAnswer Data
intval args = go_on (one args) (λ a. go_on (int_row a) (λ n. Ok (int n)))

abbrev pub strval : List Data → CallAnswer Data
strval args = go_on (one args) (λ a. go_on (text_row a) (λ t. Ok (bytes t)))

-- whether the only argument passes a test
abbrev pub tested : (Data → Bool) → List Data → CallAnswer Data
tested test args = go_on (one args) (λ a. Ok (truth (test a)))

abbrev pub numeric : Data → Bool
numeric null = false
numeric (truth b) = false
numeric (int n) = true
numeric (bytes t) = is_numeric t
numeric (array a) = false
numeric (object n) = false

abbrev pub digital : Data → Bool
digital null = false
digital (truth b) = false
digital (int n) = false
digital (bytes t) = all_digits t
digital (array a) = false
digital (object n) = false

abbrev pub is_int : Data → Bool
is_int null = false
is_int (truth b) = false
is_int (int n) = true
is_int (bytes t) = false
is_int (array a) = false
is_int (object n) = false

abbrev pub is_string : Data → Bool
is_string null = false
is_string (truth b) = false
is_string (int n) = false
is_string (bytes t) = true
is_string (array a) = false
is_string (object n) = false

abbrev pub is_bool : Data → Bool
is_bool null = false
is_bool (truth b) = true
is_bool (int n) = false
is_bool (bytes t) = false
is_bool (array a) = false
is_bool (object n) = false

abbrev pub is_array : Data → Bool
is_array null = false
is_array (truth b) = false
is_array (int n) = false
is_array (bytes t) = false
is_array (array a) = true
is_array (object n) = false

abbrev pub is_null : Data → Bool
is_null null = true
is_null (truth b) = false
is_null (int n) = false
is_null (bytes t) = false
is_null (array a) = false
is_null (object n) = false

abbrev pub is_object : Data → Bool
is_object null = false
is_object (truth b) = false
is_object (int n) = false
is_object (bytes t) = false
is_object (array a) = false
is_object (object n) = true

-- ---- all of them

unfoldable pub text_answer : TextCall → List Data → CallAnswer Data
text_answer Strlen args = strlen args
text_answer Strtolower args = changed lower args
text_answer Strtoupper args = changed upper args
text_answer Ucfirst args = changed first_upper args
text_answer Trim args = changed trimmed args
text_answer Ltrim args = changed left_trimmed args
text_answer Rtrim args = changed right_trimmed args
text_answer Substr args = substr args
text_answer Strpos args = strpos args
text_answer StrReplace args = str_replace args
text_answer StrRepeat args = str_repeat args
text_answer StrPad args = str_pad args
text_answer Strrev args = changed reverse args
text_answer Ord args = ord args
text_answer Chr args = chr args
text_answer Strcmp args = strcmp args
text_answer Explode args = explode args
text_answer Implode args = implode args
text_answer Join args = implode args
text_answer Htmlspecialchars args = htmlspecialchars args
text_answer Urlencode args = url_form args
text_answer Rawurlencode args = url_raw args
text_answer Sprintf args = sprintf args
text_answer Intval args = intval args
text_answer Strval args = strval args
text_answer IsNumeric args = tested numeric args
text_answer IsInt args = tested is_int args
text_answer IsString args = tested is_string args
text_answer IsBool args = tested is_bool args
text_answer IsArray args = tested is_array args
text_answer IsNull args = tested is_null args
text_answer IsObject args = tested is_object args
text_answer CtypeDigit args = tested digital args
text_answer Intdiv args = intdiv args
text_answer Dirname args = changed dirname args
text_answer Basename args = changed basename args

-- ---- names

abbrev pub case_named : List ℕ → Option TextCall
case_named name =
    if bytes_eq name (codes "strlen") then Some Strlen else
    if bytes_eq name (codes "strtolower") then Some Strtolower else
    if bytes_eq name (codes "strtoupper") then Some Strtoupper else
    if bytes_eq name (codes "ucfirst") then Some Ucfirst else
    if bytes_eq name (codes "strrev") then Some Strrev else
    None

abbrev pub trim_named : List ℕ → Option TextCall
trim_named name =
    if bytes_eq name (codes "trim") then Some Trim else
    if bytes_eq name (codes "ltrim") then Some Ltrim else
    if bytes_eq name (codes "rtrim") then Some Rtrim else
    if bytes_eq name (codes "ord") then Some Ord else
    if bytes_eq name (codes "chr") then Some Chr else
    if bytes_eq name (codes "strcmp") then Some Strcmp else
    None

abbrev pub part_named : List ℕ → Option TextCall
part_named name =
    if bytes_eq name (codes "substr") then Some Substr else
    if bytes_eq name (codes "strpos") then Some Strpos else
    if bytes_eq name (codes "dirname") then Some Dirname else
    if bytes_eq name (codes "basename") then Some Basename else
    if bytes_eq name (codes "intdiv") then Some Intdiv else
    None

abbrev pub piece_named : List ℕ → Option TextCall
piece_named name =
    if bytes_eq name (codes "str_replace") then Some StrReplace else
    if bytes_eq name (codes "str_repeat") then Some StrRepeat else
    if bytes_eq name (codes "str_pad") then Some StrPad else
    if bytes_eq name (codes "explode") then Some Explode else
    if bytes_eq name (codes "implode") then Some Implode else
    if bytes_eq name (codes "join") then Some Join else
    None

abbrev pub escape_named : List ℕ → Option TextCall
escape_named name =
    if bytes_eq name (codes "htmlspecialchars") then Some Htmlspecialchars else
    if bytes_eq name (codes "urlencode") then Some Urlencode else
    if bytes_eq name (codes "rawurlencode") then Some Rawurlencode else
    if bytes_eq name (codes "sprintf") then Some Sprintf else
    if bytes_eq name (codes "intval") then Some Intval else
    if bytes_eq name (codes "strval") then Some Strval else
    None

abbrev pub kind_named : List ℕ → Option TextCall
kind_named name =
    if bytes_eq name (codes "is_int") then Some IsInt else
    if bytes_eq name (codes "is_string") then Some IsString else
    if bytes_eq name (codes "is_bool") then Some IsBool else
    if bytes_eq name (codes "is_array") then Some IsArray else
    if bytes_eq name (codes "is_null") then Some IsNull else
    None

abbrev pub test_named : List ℕ → Option TextCall
test_named name =
    if bytes_eq name (codes "is_object") then Some IsObject else
    if bytes_eq name (codes "is_numeric") then Some IsNumeric else
    if bytes_eq name (codes "ctype_digit") then Some CtypeDigit else
    None

abbrev pub or_else : Option TextCall → Option TextCall → Option TextCall
or_else None b = b
or_else (Some c) b = Some c

-- the call of a name in lower case
abbrev pub call_named : List ℕ → Option TextCall
call_named name =
    or_else (case_named name) (or_else (trim_named name) (or_else (part_named name) (or_else (piece_named name) (or_else (escape_named name) (or_else (kind_named name) (test_named name))))))
