-- A token that may be missing.
use Rattle.std.specs.Prelude.{Option, Some, None}
use Rattle.php_grammar.specs.declared.lexeme.Lexeme.{Lexeme}
use Rattle.php_grammar.specs.Values.{no_token}

abbrev pub seen : Option Lexeme → Lexeme
seen None = no_token
seen (Some t) = t
