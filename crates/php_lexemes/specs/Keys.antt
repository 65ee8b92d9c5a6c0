-- The key of an element, as it stands between the brackets of `$v[k]` in a text.
use Rattle.std.specs.Prelude.{ℕ, ℤ, pos, negsuc, ◌-◌, ◌^◌, ◌==◌, List, [], ◌∷◌, Option, Some, None, if◌then◌else◌}
use Rattle.less_terms.specs.Decimals.{decimal_value}
use Rattle.php_lexer.specs.declared.kinds.IndexKey.{IndexKey}
use Rattle.php_lexer.specs.declared.kinds.IndexKey.TheVariants as key
use Rattle.php_tree.specs.declared.expr.QuoteKey.{QuoteKey}
use Rattle.php_tree.specs.declared.expr.QuoteKey.TheVariants as quote
use Rattle.php_lexemes.specs.Names.{Name, number_in}

-- the number with a minus before it, where it is not 0
abbrev pub negated : Option ℕ → Option ℤ
negated None = None
negated (Some n) = if n == 0 then None else Some (negsuc (n - 1))

abbrev pub whole : Option ℕ → Option ℤ
whole None = None
whole (Some n) = Some (pos n)

-- a number of at most 64 bits below zero
abbrev pub below_zero : List ℕ → Option ℤ
below_zero digits = negated (decimal_value (2 ^ 63) digits)

abbrev pub from_zero : List ℕ → Option ℤ
from_zero digits = whole (decimal_value (2 ^ 63 - 1) digits)

-- the number that a text is in decimal, without needless zeros: `-` stands only before a number that is not 0
unfoldable pub number_of : List ℕ → Option ℤ
number_of [] = None
number_of (first ∷ rest) = if first == 45 then below_zero rest else from_zero (first ∷ rest)

abbrev pub number_or_text : List ℕ → Option ℤ → QuoteKey
number_or_text text (Some n) = quote.Int n
number_or_text text None = quote.Text text

-- a number where the text is one, else the text; a variable by its number
abbrev pub key_of : List Name → IndexKey → QuoteKey
key_of names (key.Plain text) = number_or_text text (number_of text)
key_of names (key.Var name) = quote.Var (number_in names name)
