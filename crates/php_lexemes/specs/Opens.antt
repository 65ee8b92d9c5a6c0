-- What an open text of the code stands for.
use Rattle.php_lexemes.specs.Lexemes as spec
use Rattle.php_lexemes.specs.declared.sorts.Open.{Open}

abbrev pub open_of : Open → spec.Open
open_of o = record { left = o.left; braces = o.braces }
