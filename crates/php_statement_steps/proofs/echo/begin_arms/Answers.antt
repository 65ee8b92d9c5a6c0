use Rattle.std.proofs.Common.{rules}
use Rattle.php_rest.specs.Tails.{left_in}
use Rattle.php_statement_steps.proofs.Going.{arm-seen, arms-on}
use Rattle.php_statement_steps.proofs.echo.begin_arms.Goals as goal

pub returns : goal.returns
returns c = λ t w k. arms-on (left_in c.args.arms) c.in-Some.first.now c.guard.result.0 _ c.guard.result.1 c.in-Some.more _ _ _ (search (rules, c.in-Some.ensures)) (arm-seen _ _ _ c.guard.ensures.test c.guard.ensures.body) c.get.ensures c.in_ok-push.ensures.ok t _ k
