-- What stands at a front lies within the text.
use Rattle.std.specs.Prelude.{ℕ, ◌≤◌, ◌+◌}
use Rattle.php_lexer.specs.declared.front.Front.{Front}
use Rattle.php_lexer.specs.declared.front.Front.TheVariants as front
use Rattle.php_lexer.specs.declared.front.Outer.{Outer}
use Rattle.php_lexer.specs.declared.front.Outer.TheVariants as outer
use Rattle.php_lexer.specs.declared.front.Raw.{Raw}
use Rattle.php_lexer.specs.declared.front.Raw.TheVariants as raw
use Rattle.php_lexer.specs.declared.front.Shape.{Shape}
use Rattle.php_lexer.specs.declared.front.Shape.TheVariants as shape
use Rattle.php_lexer.specs.declared.front.Piece.{Piece}
use Rattle.php_lexer.specs.declared.front.Piece.TheVariants as piece

-- at least one byte, and no more than there are
pub record Fits (left len : ℕ) : Type 0 where
  pub moves : 1 ≤ len
  pub within : len ≤ left

-- how many bytes the form takes
abbrev pub raw_len : Raw → ℕ
raw_len (raw.Plain n) = n
raw_len (raw.Byte b n) = n
raw_len (raw.Char c n) = n

-- a character is at most 10FFFF
abbrev pub IsChar : Raw → Type 0
IsChar (raw.Char c n) = c ≤ 1114111
IsChar _ = Unit {0}

-- the words with `$`, `$[]`, `$[$]` and `$->`
abbrev pub shape_len : Shape → ℕ
shape_len (shape.Var n) = n + 1
shape_len (shape.Index n k) = n + k + 3
shape_len (shape.IndexVar n k) = n + k + 4
shape_len (shape.Property n p) = n + p + 3

abbrev pub FrontFits : ℕ → Front → Type 0
FrontFits left front.End = Unit {0}
FrontFits left (front.Blank n) = Fits left n
FrontFits left (front.Close n) = (2 ≤ n) × (n ≤ left)
FrontFits left (front.Token s n) = Fits left n
FrontFits left front.Open = 1 ≤ left
FrontFits left front.Shut = 1 ≤ left
FrontFits left (front.Quote d) = 1 ≤ left
FrontFits left (front.Fault n k) = n ≤ left

abbrev pub OuterFits : ℕ → Outer → Type 0
OuterFits left outer.End = Unit {0}
OuterFits left (outer.Inline n) = Fits left n
OuterFits left (outer.Tag n) = Fits left n
OuterFits left outer.Echo = 3 ≤ left

abbrev pub PieceFits : ℕ → Piece → Type 0
PieceFits left piece.End = Unit {0}
PieceFits left piece.Close = 1 ≤ left
PieceFits left (piece.Raw r) = Fits left (raw_len r) × IsChar r
PieceFits left (piece.Var s) = shape_len s ≤ left
PieceFits left piece.Embedded = 1 ≤ left
PieceFits left (piece.Fault n k) = n ≤ left
