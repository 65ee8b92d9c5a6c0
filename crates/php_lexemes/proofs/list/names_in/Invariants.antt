use Rattle.std.proofs.Common.{◌≡◌, [], drop, map}
use Rattle.php_lexer.specs.Marks.{mark_of}
use Rattle.php_lexemes.specs.Names.{names_from}
use Rattle.php_lexemes.proofs.list.names_in.Given as goal

abbrev pub invariant-loop-token : goal.invariant-loop-token
invariant-loop-token l = names_from l.names (map mark_of (drop l.token-index l.tokens)) ≡ names_from [] (map mark_of l.tokens)
