use Rattle.std.proofs.Common.{◌≡◌, drop, map}
use Rattle.php_lexer.specs.Marks.{mark_of}
use Rattle.app_load.specs.Stubs.{first_reserved}
use Rattle.app_load.proofs.stub.first_reserved.Given as goal

abbrev pub invariant-loop-token : goal.invariant-loop-token
invariant-loop-token l = first_reserved (map mark_of (drop l.token-index l.tokens)) ≡ first_reserved (map mark_of l.tokens)
