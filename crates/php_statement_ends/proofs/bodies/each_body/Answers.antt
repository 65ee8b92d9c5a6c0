use Rattle.std.proofs.Common.{arith, ◌∙◌}
use Rattle.php_rest.specs.Pairs.{pairs_left}
use Rattle.php_rest.specs.Rest.{rest, each_left}
use Rattle.php_statement_ends.proofs.Leaving.{loop-broken, loop-again, loop-continued}
use Rattle.php_statement_ends.proofs.bodies.each_body.Goals as goal

pub returns-in-Breaks : goal.returns-in-Breaks
returns-in-Breaks c = λ s t w k. loop-broken _ _ _ c.in-Breaks.is c.behind_break.ensures (each_left t c.args.of (pairs_left c.args.turns)) (rest t s k) w
