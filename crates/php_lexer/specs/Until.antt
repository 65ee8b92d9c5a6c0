-- How far a text goes before a mark.
use Rattle.std.specs.Prelude.{ℕ, suc, Bool, ◌==◌, ◌||◌, ◌&&◌, not, [], ◌∷◌, length, slice_index, if◌then◌else◌}
use Rattle.php_lexer.specs.Bytes.{Text}
use Rattle.php_lexer.specs.declared.until.Stop.{Stop}
use Rattle.php_lexer.specs.declared.until.Stop.TheVariants.{Line, Comment, Tag}

abbrev pub letter : ℕ → ℕ → ℕ → Bool
letter b small capital = b == small || b == capital

-- `<?php` in any case
abbrev pub is_php : Text → Bool
is_php z =
    slice_index z 0 == 60 && slice_index z 1 == 63 && letter (slice_index z 2) 112 80 && letter (slice_index z 3) 104 72
    && letter (slice_index z 4) 112 80

-- the length of the open tag with its space, tab, LF or CR LF, at the end without; 0 where there is none
abbrev pub tag_len : Text → ℕ
tag_len z =
    if not (is_php z) then 0
    else (if length z == 5 then 5
    else (if slice_index z 5 == 32 || slice_index z 5 == 9 || slice_index z 5 == 10 then 6
    else (if slice_index z 5 == 13 && slice_index z 6 == 10 then 7 else 0)))

-- `<?=`
abbrev pub is_echo : Text → Bool
is_echo z = slice_index z 0 == 60 && slice_index z 1 == 63 && slice_index z 2 == 61

-- a line comment stops before LF and before `?>`, another comment at `*/`, inline text at an open tag
abbrev pub stops : Stop → Text → Bool
stops Line z = slice_index z 0 == 10 || (slice_index z 0 == 63 && slice_index z 1 == 62)
stops Comment z = slice_index z 0 == 42 && slice_index z 1 == 47
stops Tag z = is_echo z || not (tag_len z == 0)

-- a byte that may begin the mark
abbrev pub may_begin : Stop → ℕ → Bool
may_begin Line b = b == 10 || b == 63
may_begin Comment b = b == 42
may_begin Tag b = b == 60

-- how many bytes there are before the mark, or before the end
unfoldable pub until : Stop → Text → ℕ
until stop [] = 0
until stop (b ∷ z) = if stops stop (b ∷ z) then 0 else suc (until stop z)
