-- Classes of bytes, and how far a class goes.
use Rattle.std.specs.Prelude.{ℕ, Bool, ◌==◌, ◌||◌, ◌&&◌, not, nat_le, List, take, drop}
use Rattle.std.specs.Char.{is_ascii_digit, is_ascii_hexdigit, is_ascii_alphabetic, is_ascii_alphanumeric}
use Rattle.std.specs.List.{prefix_len}
use Rattle.php_lexer.specs.declared.bytes.Class.{Class}
use Rattle.php_lexer.specs.declared.bytes.Class.TheVariants as class

abbrev pub Text : Type 0
Text = List ℕ

abbrev pub is_in : Class → ℕ → Bool
is_in class.Space b = b == 32 || b == 9 || b == 10 || b == 13
is_in class.Margin b = b == 32 || b == 9
is_in class.Letter b = is_ascii_alphabetic b
is_in class.WordStart b = is_ascii_alphabetic b || b == 95
is_in class.Word b = is_ascii_alphanumeric b || b == 95
is_in class.Digit b = is_ascii_digit b
is_in class.Hex b = is_ascii_hexdigit b
is_in class.Octal b = nat_le 48 b && nat_le b 55
is_in class.Binary b = b == 48 || b == 49
-- neither quote nor backslash
is_in class.Single b = not (b == 39 || b == 92)
-- neither quote, backslash, dollar nor brace
is_in class.Double b = not (b == 34 || b == 92 || b == 36 || b == 123)

-- how many bytes of the class stand from the place on
abbrev pub run : Class → Text → ℕ → ℕ
run c z at = prefix_len (is_in c) (drop at z)

-- the same, of at most `most` bytes
abbrev pub run_up_to : Class → Text → ℕ → ℕ → ℕ
run_up_to c z at most = prefix_len (is_in c) (take most (drop at z))

-- so many bytes from a place on
abbrev pub cut : Text → ℕ → ℕ → Text
cut z at len = take len (drop at z)
