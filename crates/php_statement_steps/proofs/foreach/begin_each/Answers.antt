use Rattle.std.proofs.Common.{rules}
use Rattle.php_rest.specs.Pairs.{pairs_left}
use Rattle.php_world.specs.View.{vars_of}
use Rattle.php_statement_steps.proofs.Going.{each-turn}
use Rattle.php_statement_steps.proofs.foreach.begin_each.Goals as goal

pub returns : goal.returns
returns c = λ t w k. each-turn t c.args.of (pairs_left c.args.turns) c.in-Some.key.now c.in-Some.item.now c.in_ok-item.item _ (vars_of t c.set.new.store) _ c.behind-behind.result _ _ c.new.result w k
    (search (rules, c.in-Some.ensures)) (search rules) (c.in_ok-set.ensures t) (c.in_ok-set_key.ensures t w c.in-Some.key.now c.in_ok-key.ensures) c.behind-behind.ensures c.new.ensures c.in_ok-push.ensures.ok
