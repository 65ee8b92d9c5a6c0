-- What stands at the front of code, and outside the code: a case for each form.
use Rattle.std.specs.Prelude.{ℕ, ◌+◌, Bool, ◌==◌, ◌&&◌, not, nat_lt, true, false, length, slice_index, drop, if◌then◌else◌}
use Rattle.std.specs.Char.{is_ascii_digit}
use Rattle.php_lexer.specs.Bytes.{Text, is_in, run}
use Rattle.php_lexer.specs.Numbers.{number}
use Rattle.php_lexer.specs.Signs.{sign, paren}
use Rattle.php_lexer.specs.Until.{until, stops, tag_len, is_echo}
use Rattle.php_lexer.specs.declared.bytes.Class.TheVariants as class
use Rattle.php_lexer.specs.declared.until.Stop.TheVariants as stop
use Rattle.php_lexer.specs.declared.front.Front.{Front}
use Rattle.php_lexer.specs.declared.front.Front.TheVariants as front
use Rattle.php_lexer.specs.declared.front.Outer.{Outer}
use Rattle.php_lexer.specs.declared.front.Outer.TheVariants as outer
use Rattle.php_lexer.specs.declared.front.Simple.TheVariants as simple
use Rattle.php_lexer.specs.declared.fault.LexKind.TheVariants.{Form, OpenComment}
use Rattle.php_lexer.specs.declared.fault.FormName.TheVariants as name
use Rattle.php_lexer.specs.declared.code.TheConstants.{MAX_WORD}

-- ---- outside

abbrev pub has_tag : Text → Bool
has_tag z = stops stop.Tag z

abbrev pub tag : Text → Outer
tag z = if is_echo z then outer.Echo else outer.Tag (tag_len z)

-- the end, the bytes before the next open tag, or the tag
unfoldable pub outside : Text → Outer
outside z =
    if length z == 0 then outer.End
    else (if not (until stop.Tag z == 0) then outer.Inline (until stop.Tag z) else tag z)

-- ---- inside

abbrev pub word : Text → Front
word z = if nat_lt MAX_WORD (run class.Word z 0) then front.Fault 0 (Form name.Name) else front.Token simple.Word (run class.Word z 0)

-- a dollar with a word
abbrev pub variable : Text → Front
variable z =
    if not (is_in class.WordStart (slice_index z 1)) then front.Fault 0 (Form name.Dollar)
    else (if nat_lt MAX_WORD (run class.Word z 1) then front.Fault 1 (Form name.Name) else front.Token simple.Var (run class.Word z 1 + 1))

abbrev pub longest : Text → Front
longest z = sign (slice_index z 0) (slice_index z 1) (slice_index z 2)

-- up to a line end, `?>` or the end
abbrev pub line_comment : Text → ℕ → Front
line_comment z from = front.Blank (from + until stop.Line (drop from z))

-- up to `*/`, which has to come
unfoldable pub comment : Text → Front
comment z =
    let end = 2 + until stop.Comment (drop 2 z) in
    if slice_index z end == 42 && slice_index z (end + 1) == 47 then front.Blank (end + 2) else front.Fault 0 OpenComment

unfoldable pub slash : Text → Front
slash z = if slice_index z 1 == 47 then line_comment z 2 else (if slice_index z 1 == 42 then comment z else longest z)

-- LF or CR LF
abbrev pub line_end : Text → ℕ → ℕ
line_end z at = if slice_index z at == 10 then 1 else (if slice_index z at == 13 && slice_index z (at + 1) == 10 then 2 else 0)

-- the close tag, with the line end that it swallows
unfoldable pub question : Text → Front
question z = if slice_index z 1 == 62 then front.Close (2 + line_end z 2) else longest z

unfoldable pub symbol : Text → Front
symbol z =
    let b = slice_index z 0 in
    if b == 36 then variable z else (if b == 34 then front.Quote true else (if b == 39 then front.Quote false
    else (if b == 123 then front.Open else (if b == 125 then front.Shut
    else (if b == 35 then line_comment z 1 else (if b == 47 then slash z
    else (if b == 40 then paren z else (if b == 63 then question z else longest z))))))))

unfoldable pub inside : Text → Front
inside z =
    let b = slice_index z 0 in
    if length z == 0 then front.End
    else (if is_in class.Space b then front.Blank (run class.Space z 0)
    else (if is_in class.WordStart b then word z
    else (if is_ascii_digit b then number z else symbol z)))
