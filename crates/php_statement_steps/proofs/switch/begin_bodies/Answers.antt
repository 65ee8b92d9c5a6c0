use Rattle.std.proofs.Common.{rules}
use Rattle.php_rest.specs.Tails.{left_in}
use Rattle.php_statement_steps.proofs.Going.{case-bodies, default-bodies}
use Rattle.php_statement_steps.proofs.switch.begin_bodies.Goals as goal

pub returns-in-Case : goal.returns-in-Case
returns-in-Case c = λ t w k. case-bodies (left_in c.args.arms) c.in-Some.first.now _ _ c.in-Some.more c.new.result _ _ (search (rules, c.in-Some.ensures)) c.in-Case.is c.new.ensures c.in_ok-push.ensures.ok t _ k

pub returns-in-Default : goal.returns-in-Default
returns-in-Default c = λ t w k. default-bodies (left_in c.args.arms) c.in-Some.first.now _ c.in-Some.more c.new-in-Default.result _ _ (search (rules, c.in-Some.ensures)) c.in-Default.is c.new-in-Default.ensures c.in_ok-push.ensures.ok t _ k
