use Rattle.std.proofs.Common.{◌≡◌, drop, map}
use Rattle.php_lexer.specs.Marks.{mark_of}
use Rattle.app_load.specs.Stubs.{first_stray}
use Rattle.app_load.proofs.stub.first_stray.Given as goal

abbrev pub invariant-loop-token : goal.invariant-loop-token
invariant-loop-token l = first_stray l.left (map mark_of (drop l.token-index l.tokens)) ≡ first_stray l.initial.left (map mark_of l.tokens)
