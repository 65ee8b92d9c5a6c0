use Rattle.std.proofs.Common.{◌≡◌, [], ◌++◌, drop, map}
use Rattle.php_lexer.specs.Marks.{mark_of}
use Rattle.php_lexemes.specs.Lexemes.{lexemes_from}
use Rattle.php_lexemes.proofs.list.list_of.Given as goal

abbrev pub invariant-loop-token : goal.invariant-loop-token
invariant-loop-token l = l.list ++ lexemes_from l.names l.around (map mark_of (drop l.token-index l.tokens)) ≡ lexemes_from l.names [] (map mark_of l.tokens)
