use Rattle.std.proofs.Common.{arith}
use Rattle.php_statement_ends.proofs.Leaving.{continue-more}
use Rattle.php_statement_ends.proofs.bodies.behind_continue.Goals as goal

pub returns : goal.returns
returns c = continue-more c.args.n (omega (arith, c.if-n-eq0.false))
