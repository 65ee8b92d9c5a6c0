-- What stands at the front of a quoted text's body: a case for each form.
use Rattle.std.specs.Prelude.{ℕ, ◌+◌, ◌%◌, Bool, ◌==◌, ◌||◌, ◌&&◌, not, nat_lt, nat_le, length, slice_index, if◌then◌else◌}
use Rattle.php_lexer.specs.Bytes.{Text, is_in, run, run_up_to, cut}
use Rattle.php_lexer.specs.Numbers.{value}
use Rattle.php_lexer.specs.declared.bytes.Class.TheVariants as class
use Rattle.php_lexer.specs.declared.front.Piece.{Piece}
use Rattle.php_lexer.specs.declared.front.Piece.TheVariants as piece
use Rattle.php_lexer.specs.declared.front.Raw.TheVariants as raw
use Rattle.php_lexer.specs.declared.front.Shape.TheVariants as shape
use Rattle.php_lexer.specs.declared.fault.LexKind.TheVariants.{Form}
use Rattle.php_lexer.specs.declared.fault.FormName.{FormName}
use Rattle.php_lexer.specs.declared.fault.FormName.TheVariants as name
use Rattle.php_lexer.specs.declared.code.TheConstants.{MAX_WORD}
use Rattle.php_lexer.specs.declared.piece.TheConstants.{MAX_CHAR}

abbrev pub fault : ℕ → FormName → Piece
fault at form = piece.Fault at (Form form)

-- so many bytes that stand for themselves
abbrev pub plain : ℕ → Piece
plain len = piece.Raw (raw.Plain len)

-- an escape of two bytes
abbrev pub one : ℕ → Piece
one b = piece.Raw (raw.Byte b 2)

-- ---- escapes

abbrev pub small_value : ℕ → Text → ℕ
small_value base digits = value base digits % 256

-- one to three octal digits, modulo 256
abbrev pub octal : Text → Piece
octal z = let len = run_up_to class.Octal z 1 3 in piece.Raw (raw.Byte (small_value 8 (cut z 1 len)) (len + 1))

-- one or two hexadecimal digits; without them the backslash stays
abbrev pub hex : Text → Piece
hex z =
    let len = run_up_to class.Hex z 2 2 in
    if len == 0 then plain 1 else piece.Raw (raw.Byte (small_value 16 (cut z 2 len)) (len + 2))

-- hexadecimal digits in braces
abbrev pub unicode : Text → Piece
unicode z =
    let len = run class.Hex z 3 in
    if len == 0 || not (slice_index z (len + 3) == 125) then fault 0 name.Unicode
    else (if nat_le (value 16 (cut z 3 len)) MAX_CHAR then piece.Raw (raw.Char (value 16 (cut z 3 len)) (len + 4)) else fault 0 name.Unicode)

unfoldable pub escape : Text → Piece
escape z =
    let b = slice_index z 1 in
    if b == 110 then one 10 else (if b == 116 then one 9 else (if b == 114 then one 13 else (if b == 118 then one 11
    else (if b == 101 then one 27 else (if b == 102 then one 12 else (if b == 92 then one 92 else (if b == 36 then one 36
    else (if b == 34 then one 34 else (if is_in class.Octal b then octal z else (if b == 120 then hex z
    else (if b == 117 && slice_index z 2 == 123 then unicode z else plain 1)))))))))))

-- ---- variables, after a name of so many bytes

abbrev pub word_key : Text → ℕ → Piece
word_key z n =
    let from = n + 2 in
    let len = run class.Word z from in
    if not (slice_index z (from + len) == 93) then fault from name.Offset
    else (if nat_lt MAX_WORD len then fault from name.Name else piece.Var (shape.Index n len))

unfoldable pub variable_key : Text → ℕ → Piece
variable_key z n =
    let from = n + 2 in
    let len = run class.Word z (from + 1) in
    if slice_index z (from + 1) == 123 then fault from name.Dollar
    else (if not (is_in class.WordStart (slice_index z (from + 1))) then fault from name.Offset
    else (if not (slice_index z (from + 1 + len) == 93) then fault from name.Offset
    else (if nat_lt MAX_WORD len then fault (from + 1) name.Name else piece.Var (shape.IndexVar n len))))

unfoldable pub number_key : Text → ℕ → Piece
number_key z n =
    let from = n + 2 in
    let minus = if slice_index z from == 45 then 1 else 0 in
    let len = run class.Digit z (from + minus) in
    if len == 0 || not (slice_index z (from + minus + len) == 93) then fault from name.Offset else piece.Var (shape.Index n (minus + len))

unfoldable pub key : Text → ℕ → Piece
key z n =
    if is_in class.WordStart (slice_index z (n + 2)) then word_key z n
    else (if slice_index z (n + 2) == 36 then variable_key z n else number_key z n)

abbrev pub property : Text → ℕ → Piece
property z n =
    if nat_lt MAX_WORD (run class.Word z (n + 3)) then fault (n + 3) name.Name else piece.Var (shape.Property n (run class.Word z (n + 3)))

-- an arrow and a word
abbrev pub has_property : Text → ℕ → Bool
has_property z at = slice_index z at == 45 && slice_index z (at + 1) == 62 && is_in class.WordStart (slice_index z (at + 2))

-- a variable; a bracket at the very end is no index
unfoldable pub variable : Text → Piece
variable z =
    let n = run class.Word z 1 in
    if nat_lt MAX_WORD n then fault 1 name.Name
    else (if slice_index z (n + 1) == 91 && nat_lt (n + 2) (length z) then key z n
    else (if has_property z (n + 1) then property z n else piece.Var (shape.Var n)))

unfoldable pub dollar : Text → Piece
dollar z =
    if is_in class.WordStart (slice_index z 1) then variable z
    else (if slice_index z 1 == 123 then fault 0 name.Dollar else plain 1)

-- ---- the two kinds of text

unfoldable pub double : Text → Piece
double z =
    let b = slice_index z 0 in
    if b == 34 then piece.Close else (if b == 92 then escape z else (if b == 36 then dollar z
    else (if b == 123 then (if slice_index z 1 == 36 then piece.Embedded else plain 1) else plain (run class.Double z 0))))

unfoldable pub single : Text → Piece
single z =
    let b = slice_index z 0 in
    if b == 39 then piece.Close
    else (if b == 92 then (if slice_index z 1 == 92 then one 92 else (if slice_index z 1 == 39 then one 39 else plain 1))
    else plain (run class.Single z 0))

abbrev pub piece_at : Bool → Text → Piece
piece_at is_double z = if length z == 0 then piece.End else (if is_double then double z else single z)
