-- Signs, the longest first, with the left-out forms among them; and casts.
use Rattle.std.specs.Prelude.{◌≡◌, ◌≤◌, ℕ, ◌+◌, Bool, ◌==◌, ◌||◌, ◌&&◌, slice_index, codes, if◌then◌else◌}
use Rattle.std.specs.Char.{is_ascii_digit}
use Rattle.std.specs.Str.{str_eq_ignore_ascii_case}
use Rattle.php_lexer.specs.Bytes.{Text, run, cut}
use Rattle.php_lexer.specs.declared.bytes.Class.TheVariants.{Margin, Letter}
use Rattle.php_lexer.specs.declared.front.Front.{Front}
use Rattle.php_lexer.specs.declared.front.Front.TheVariants as front
use Rattle.php_lexer.specs.declared.front.Simple.TheVariants as simple
use Rattle.php_lexer.specs.declared.kinds.Sign.{Sign}
use Rattle.php_lexer.specs.declared.kinds.Sign.TheVariants as s
use Rattle.php_lexer.specs.declared.kinds.Cast.TheVariants as cast
use Rattle.php_lexer.specs.declared.sign.CastWord.{CastWord}
use Rattle.php_lexer.specs.declared.sign.CastWord.TheVariants.{Known, LeftOut, Other}
use Rattle.php_lexer.specs.declared.fault.LexKind.TheVariants.{BadByte, Form}
use Rattle.php_lexer.specs.declared.fault.FormName.{FormName}
use Rattle.php_lexer.specs.declared.fault.FormName.TheVariants as name

abbrev pub token : Sign → ℕ → Front
token sign len = front.Token (simple.Sign sign) len

abbrev pub left_out : FormName → Front
left_out form = front.Fault 0 (Form form)

-- a token of one byte, of two where there is a second, of three where there is a third; or a fault at its first byte
abbrev pub IsShort : ℕ → ℕ → Front → Type 0
IsShort c d (front.Token t n) = (1 ≤ n) × (n ≤ 3) × (c ≡ 0 → n ≡ 1) × (d ≡ 0 → n ≤ 2)
IsShort c d (front.Fault n k) = n ≡ 0
IsShort c d _ = ⊥

-- ---- by the first byte, from the second and the third

abbrev pub equal : ℕ → ℕ → Front
equal c d = if c == 61 then (if d == 61 then token s.Identical 3 else token s.Equal 2) else (if c == 62 then token s.DoubleArrow 2 else token s.Assign 1)

abbrev pub not : ℕ → ℕ → Front
not c d = if c == 61 then (if d == 61 then token s.NotIdentical 3 else token s.NotEqual 2) else token s.Not 1

abbrev pub less : ℕ → ℕ → Front
less c d =
    if c == 60 then (if d == 60 then left_out name.Heredoc else left_out name.Bits)
    else (if c == 61 then (if d == 62 then token s.Spaceship 3 else token s.LessEqual 2)
    else (if c == 62 then token s.LessGreater 2 else token s.Less 1))

abbrev pub greater : ℕ → Front
greater c = if c == 62 then left_out name.Bits else (if c == 61 then token s.GreaterEqual 2 else token s.Greater 1)

abbrev pub and : ℕ → Front
and c = if c == 38 then token s.AndAnd 2 else (if c == 61 then left_out name.Bits else token s.Ampersand 1)

abbrev pub or : ℕ → Front
or c = if c == 124 then token s.OrOr 2 else (if c == 61 then left_out name.Bits else token s.Pipe 1)

abbrev pub plus : ℕ → Front
plus c = if c == 43 then token s.PlusPlus 2 else (if c == 61 then token s.PlusAssign 2 else token s.Plus 1)

abbrev pub minus : ℕ → Front
minus c =
    if c == 45 then token s.MinusMinus 2
    else (if c == 61 then token s.MinusAssign 2 else (if c == 62 then token s.Arrow 2 else token s.Minus 1))

abbrev pub star : ℕ → Front
star c = if c == 42 then left_out name.Power else (if c == 61 then token s.StarAssign 2 else token s.Star 1)

abbrev pub assigning : ℕ → Sign → Sign → Front
assigning c sign assign = if c == 61 then token assign 2 else token sign 1

abbrev pub dot : ℕ → ℕ → Front
dot c d =
    if is_ascii_digit c then left_out name.Float
    else (if c == 46 && d == 46 then left_out name.Spread else (if c == 61 then token s.DotAssign 2 else token s.Dot 1))

abbrev pub question : ℕ → ℕ → Front
question c d = if c == 63 then (if d == 61 then left_out name.Coalesce else token s.Coalesce 2) else token s.Question 1

abbrev pub colon : ℕ → Front
colon c = if c == 58 then token s.DoubleColon 2 else token s.Colon 1

-- ---- the first byte

abbrev pub single : ℕ → Front
single b =
    if b == 59 then token s.Semicolon 1 else (if b == 44 then token s.Comma 1 else (if b == 40 then token s.ParenOpen 1
    else (if b == 41 then token s.ParenClose 1 else (if b == 91 then token s.BracketOpen 1 else (if b == 93 then token s.BracketClose 1
    else (if b == 64 then token s.At 1 else (if b == 94 || b == 126 then left_out name.Bits
    else (if b == 96 then left_out name.Backtick else (if b == 92 then left_out name.Namespace else front.Fault 0 BadByte)))))))))

unfoldable pub sign : ℕ → ℕ → ℕ → Front
sign b c d =
    if b == 61 then equal c d else (if b == 33 then not c d else (if b == 60 then less c d else (if b == 62 then greater c
    else (if b == 38 then and c else (if b == 124 then or c else (if b == 43 then plus c else (if b == 45 then minus c
    else (if b == 42 then star c else (if b == 47 then assigning c s.Slash s.SlashAssign
    else (if b == 37 then assigning c s.Percent s.PercentAssign else (if b == 46 then dot c d
    else (if b == 63 then question c d else (if b == 58 then colon c else single b)))))))))))))

-- ---- casts

unfoldable pub is_int_word : Text → Bool
is_int_word word = str_eq_ignore_ascii_case word (codes "int") || str_eq_ignore_ascii_case word (codes "integer")

unfoldable pub is_text_word : Text → Bool
is_text_word word = str_eq_ignore_ascii_case word (codes "string")

unfoldable pub is_bool_word : Text → Bool
is_bool_word word = str_eq_ignore_ascii_case word (codes "bool") || str_eq_ignore_ascii_case word (codes "boolean")

unfoldable pub is_array_word : Text → Bool
is_array_word word = str_eq_ignore_ascii_case word (codes "array")

unfoldable pub is_left_out_cast : Text → Bool
is_left_out_cast word =
    str_eq_ignore_ascii_case word (codes "float") || str_eq_ignore_ascii_case word (codes "double")
    || str_eq_ignore_ascii_case word (codes "real") || str_eq_ignore_ascii_case word (codes "object")
    || str_eq_ignore_ascii_case word (codes "unset") || str_eq_ignore_ascii_case word (codes "binary")

abbrev pub cast_word : Text → CastWord
cast_word word =
    if is_int_word word then Known cast.Int else (if is_text_word word then Known cast.Text
    else (if is_bool_word word then Known cast.Bool else (if is_array_word word then Known cast.Array
    else (if is_left_out_cast word then LeftOut else Other))))

abbrev pub cast_or_paren : CastWord → ℕ → Front
cast_or_paren (Known c) len = front.Token (simple.Cast c) len
cast_or_paren LeftOut len = left_out name.Cast
cast_or_paren Other len = token s.ParenOpen 1

-- a parenthesis; with a cast's word in it, spaces and tabs around, and the closing one, it is a cast
unfoldable pub paren : Text → Front
paren z =
    let from = 1 + run Margin z 1 in
    let len = run Letter z from in
    let end = from + len + run Margin z (from + len) in
    if slice_index z end == 41 then cast_or_paren (cast_word (cut z from len)) (end + 1) else token s.ParenOpen 1
