-- What a token says: its kind, its text, its place and its line.
use Rattle.std.specs.Prelude.{ℕ, List}
use Rattle.less_terms.specs.Lines.{line_at}
use Rattle.php_lexer.specs.Bytes.{Text, cut}
use Rattle.php_lexer.specs.declared.kinds.Kind.{Kind}
use Rattle.php_lexer.specs.declared.token.Token.{Token}

pub record Mark : Type 0 where
  pub kind : Kind
  pub text : List ℕ
  pub at : ℕ
  pub line : ℕ

abbrev pub mark_of : Token → Mark
mark_of token = record { kind = token.kind; text = token.text.now; at = token.at; line = token.line }

-- a token of a kind at a place of a text, so many bytes long
abbrev pub mark_at : Text → Kind → ℕ → ℕ → Mark
mark_at t kind i n = record { kind = kind; text = cut t i n; at = i; line = line_at t i }
