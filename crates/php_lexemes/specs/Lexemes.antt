-- The tokens of a text as the grammar sees them.
use Rattle.std.specs.Prelude.{ℕ, pos, ◌+◌, ◌-◌, ◌==◌, Bool, true, false, List, [], ◌∷◌, drop, map, count_by, codes, if◌then◌else◌}
use Rattle.std.specs.Str.{bytes_eq}
use Rattle.php_lexer.specs.Marks.{Mark}
use Rattle.php_lexer.specs.declared.kinds.Kind as lexer
use Rattle.php_lexer.specs.declared.kinds.Kind.TheVariants as kind
use Rattle.php_lexer.specs.declared.kinds.Sign.{Sign}
use Rattle.php_lexer.specs.declared.kinds.Sign.TheVariants.{BraceOpen, BraceClose}
use Rattle.php_lexer.specs.declared.kinds.Part.{Part}
use Rattle.php_lexer.specs.declared.kinds.Part.TheVariants as part
use Rattle.php_tree.specs.declared.expr.QuotePart.{QuotePart}
use Rattle.php_tree.specs.declared.expr.QuotePart.TheVariants as quote
use Rattle.php_grammar.specs.declared.token.Kind.TheVariants as k
use Rattle.php_grammar.specs.declared.token.Detail.TheVariants as d
use Rattle.php_grammar.specs.declared.lexeme.Lexeme.{Lexeme}
use Rattle.php_lexemes.specs.Words.{Sort, word_sort}
use Rattle.php_lexemes.specs.Signs.{cast_sort, sign_sort}
use Rattle.php_lexemes.specs.Names.{Name, number_in}
use Rattle.php_lexemes.specs.Keys.{key_of}

-- ---- the expressions that are open in texts

-- a text whose embedded expression is open: how many of its expressions come after this one, and how many braces are open
pub record Open : Type 0 where
  pub left : ℕ
  pub braces : ℕ

abbrev pub is_embedded : Part → Bool
is_embedded part.Embedded = true
is_embedded _ = false

-- how many expressions the parts embed
abbrev pub embedded : List Part → ℕ
embedded parts = count_by is_embedded parts

abbrev pub opened : List Open → List Part → List Open
opened around parts = if embedded parts == 0 then around else (record { left = embedded parts - 1; braces = 0 }) ∷ around

abbrev pub brace_opened : List Open → List Open
brace_opened [] = []
brace_opened (o ∷ around) = (record { left = o.left; braces = o.braces + 1 }) ∷ around

-- a brace that no other matches ends the expression
abbrev pub brace_closed : List Open → List Open
brace_closed [] = []
brace_closed (o ∷ around) =
    if o.braces == 0 then (if o.left == 0 then around else (record { left = o.left - 1; braces = 0 }) ∷ around)
    else (record { left = o.left; braces = o.braces - 1 }) ∷ around

abbrev pub sign_opened : List Open → Sign → List Open
sign_opened around BraceOpen = brace_opened around
sign_opened around BraceClose = brace_closed around
sign_opened around _ = around

abbrev pub kind_opened : List Open → lexer.Kind → List Open
kind_opened around (kind.Quote parts) = opened around parts
kind_opened around (kind.Sign s) = sign_opened around s
kind_opened around _ = around

-- after a token
abbrev pub open_after : List Open → Mark → List Open
open_after around m = kind_opened around m.kind

-- ---- a token

abbrev pub closing : List Open → Sort
closing [] = (k.BraceClose, d.Only)
closing (o ∷ around) = if o.braces == 0 then (if o.left == 0 then (k.QuoteClose, d.Only) else (k.QuoteNext, d.Only)) else (k.BraceClose, d.Only)

abbrev pub sign_in : List Open → Sign → Sort
sign_in around BraceClose = closing around
sign_in around s = sign_sort s

abbrev pub var_sort : Name → Sort
var_sort name = if bytes_eq name (codes "this") then (k.This, d.Only) else (k.Var, d.Only)

abbrev pub quote_sort : List Part → Sort
quote_sort parts = if embedded parts == 0 then (k.Quote, d.Only) else (k.QuoteOpen, d.Only)

-- a part of a text, with variables by number; a property's name is on the text's line
abbrev pub part_of : List Name → ℕ → Part → QuotePart (Unit {0})
part_of names line (part.Bytes bytes) = quote.Bytes bytes
part_of names line (part.Var name) = quote.Var (number_in names name)
part_of names line (part.Index name key) = quote.Index (number_in names name) (key_of names key)
part_of names line (part.Property name property) = quote.Property (number_in names name) (record { text = property; line = line })
part_of names line part.Embedded = quote.Embedded tt

abbrev pub parts_of : List Name → ℕ → List Part → List (QuotePart (Unit {0}))
parts_of names line parts = map (part_of names line) parts

-- a token of a sort with a text
abbrev pub said : Mark → Sort → List ℕ → Lexeme
said m sort text = record { kind = sort.0; detail = sort.1; at = m.at; line = m.line; number = 0; int = pos 0; text = text; parts = [] }

abbrev pub lexeme_of : List Name → List Open → Mark → lexer.Kind → Lexeme
lexeme_of names around m kind.Inline = said m (k.Inline, d.Only) m.text
lexeme_of names around m kind.Echo = said m (k.EchoTag, d.Only) m.text
lexeme_of names around m kind.Var = record (said m (var_sort (drop 1 m.text)) (drop 1 m.text)) { number = number_in names (drop 1 m.text) }
lexeme_of names around m kind.Word = said m (word_sort m.text) m.text
lexeme_of names around m (kind.Int n) = record (said m (k.Int, d.Only) m.text) { int = n }
lexeme_of names around m (kind.Text bytes) = said m (k.Text, d.Only) bytes
lexeme_of names around m (kind.Quote parts) = record (said m (quote_sort parts) m.text) { parts = parts_of names m.line parts }
lexeme_of names around m (kind.Cast c) = said m (cast_sort c) m.text
lexeme_of names around m (kind.Sign s) = said m (sign_in around s) m.text
lexeme_of names around m kind.End = said m (k.End, d.Only) m.text

abbrev pub lexeme : List Name → List Open → Mark → Lexeme
lexeme names around m = lexeme_of names around m m.kind

abbrev pub lexemes_from : List Name → List Open → List Mark → List Lexeme
lexemes_from names around [] = []
lexemes_from names around (m ∷ ms) = lexeme names around m ∷ lexemes_from names (open_after around m) ms

-- the tokens in order, where variables have their numbers among the names
abbrev pub lexemes : List Name → List Mark → List Lexeme
lexemes names ms = lexemes_from names [] ms
