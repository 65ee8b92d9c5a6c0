use Rattle.std.proofs.Common.{arith}
use Rattle.php_statement_ends.proofs.Leaving.{break-more}
use Rattle.php_statement_ends.proofs.bodies.behind_break.Goals as goal

pub returns : goal.returns
returns c = break-more c.args.n (omega (arith, c.if-n-eq0.false))
