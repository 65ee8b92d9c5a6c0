-- The words among the tokens that the grammar sees have no colon.
use Rattle.std.proofs.Common.{◌≡◌, ℕ, ◌==◌, Bool, true, false, List, [], ◌∷◌, drop}
use Rattle.std.specs.Prelude.{if◌then◌else◌, codes}
use Rattle.std.specs.Str.{bytes_eq}
use Rattle.php_lexer.specs.Bytes.{Text}
use Rattle.php_lexer.specs.Marks.{Mark}
use Rattle.php_lexer.specs.Tokens.{IsTokens}
use Rattle.php_lexer.specs.declared.kinds.Cast.{Cast}
use Rattle.php_lexer.specs.declared.kinds.Cast.TheVariants as cast
use Rattle.php_lexer.specs.declared.kinds.Kind as lexer
use Rattle.php_lexer.specs.declared.kinds.Kind.TheVariants as kind
use Rattle.php_lexer.specs.declared.kinds.Sign.{Sign}
use Rattle.php_lexer.specs.declared.kinds.Sign.TheVariants as sign
use Rattle.php_tree.specs.declared.file.FileTree.{FileTree}
use Rattle.php_tree.specs.Renamed.{name_at}
use Rattle.php_grammar.specs.declared.token.Kind.{Kind}
use Rattle.php_grammar.specs.declared.token.Kind.TheVariants as k
use Rattle.php_grammar.specs.declared.token.Detail.TheVariants as d
use Rattle.php_lexemes.specs.Words.{Sort}
use Rattle.php_lexemes.specs.Signs.{cast_sort}
use Rattle.php_lexemes.specs.Names.{Name, names_of}
use Rattle.php_lexemes.specs.Lexemes.{Open, closing, sign_in, embedded, lexeme_of, lexemes_from, open_after}
use Rattle.php_parser.specs.Verdict.{IsFileTree}
use Rattle.app_load.specs.Judged.{file_findings}
use Rattle.plain_names.specs.Words.{has_colon, ArePlain}
use Rattle.plain_names.proofs.Fronts.{no_colon}
use Rattle.plain_names.proofs.Values.{PlainBy, LexemesPlain, reads_plain}
use Rattle.plain_names.proofs.Tokens.{MarkBy, MarksPlain, words_plain}

word_is : (kind : Kind) (text : List ℕ) → has_colon text ≡ false → PlainBy kind text
word_is k.Word text e = e
word_is k.HintWord text e = e
word_is kind text e = tt {0}

either : (c : Bool) (x y : Sort) (text : List ℕ) → PlainBy x.0 text → PlainBy y.0 text → PlainBy (if c then x else y).0 text
either true x y text p q = p
either false x y text p q = q

cast_is : (c : Cast) (text : List ℕ) → PlainBy (cast_sort c).0 text
cast_is cast.Int text = tt {0}
cast_is c text = tt {0}

closing_is : (around : List Open) (text : List ℕ) → PlainBy (closing around).0 text
closing_is [] text = tt {0}
closing_is (o ∷ around) text =
    either (o.braces == 0) (if o.left == 0 then (k.QuoteClose, d.Only) else (k.QuoteNext, d.Only)) (k.BraceClose, d.Only) text
    (either (o.left == 0) (k.QuoteClose, d.Only) (k.QuoteNext, d.Only) text (tt {0}) (tt {0})) (tt {0})

sign_is : (around : List Open) (s : Sign) (text : List ℕ) → PlainBy (sign_in around s).0 text
sign_is around sign.BraceClose text = closing_is around text
sign_is around sign.Semicolon text = tt {0}
sign_is around s text = tt {0}

lexeme_is : (names : List Name) (around : List Open) (m : Mark) (kind : lexer.Kind) → MarkBy kind m.text → PlainBy (lexeme_of names around m kind).kind (lexeme_of names around m kind).text
lexeme_is names around m kind.Inline p = tt {0}
lexeme_is names around m kind.Echo p = tt {0}
lexeme_is names around m kind.Var p = either (bytes_eq (drop 1 m.text) (codes "this")) (k.This, d.Only) (k.Var, d.Only) (drop 1 m.text) (tt {0}) (tt {0})
lexeme_is names around m kind.Word p = word_is _ m.text (no_colon m.text p)
lexeme_is names around m (kind.Int n) p = tt {0}
lexeme_is names around m (kind.Text bytes) p = tt {0}
lexeme_is names around m (kind.Quote parts) p = either (embedded parts == 0) (k.Quote, d.Only) (k.QuoteOpen, d.Only) m.text (tt {0}) (tt {0})
lexeme_is names around m (kind.Cast c) p = cast_is c m.text
lexeme_is names around m (kind.Sign s) p = sign_is around s m.text
lexeme_is names around m kind.End p = tt {0}

lexemes_plain : (names : List Name) (around : List Open) (ms : List Mark) → MarksPlain ms → LexemesPlain (lexemes_from names around ms)
lexemes_plain names around [] p = tt {0}
lexemes_plain names around (m ∷ ms) p = (lexeme_is names around m m.kind p.0, lexemes_plain names (open_after around m) ms p.1)

pub tree_plain : (text : Text) (ms : List Mark) (tree : FileTree) → IsTokens text ms → IsFileTree ms tree → ArePlain (file_findings tree)
tree_plain text ms tree tokens is = (reads_plain (name_at tree.variables) is.tree_of (lexemes_plain (names_of ms) [] ms (words_plain text ms tokens))).0.0 0
