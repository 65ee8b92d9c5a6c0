use Rattle.std.proofs.Common.{◌∙◌}
use Rattle.php_statement_steps.proofs.Going.{turn-while, turn-do, turn-for}
use Rattle.php_statement_steps.proofs.looping.turn.Goals as goal

pub returns-in_ok-push-in-While : goal.returns-in_ok-push-in-While
returns-in_ok-push-in-While c = λ t w k. turn-while _ _ _ _ _ _ _ c.args.scene.now c.stand_at.new.scene c.in-While.is c.get.ensures c.in_ok-push-in-While.ensures.ok c.stand_at.ensures c.args.store.now t w k

pub returns-in_ok-push-in-Do : goal.returns-in_ok-push-in-Do
returns-in_ok-push-in-Do c = λ t w k. turn-do _ _ _ _ c.new.result _ _ c.in-Do.is c.new.ensures c.in_ok-push-in-Do.ensures.ok t _ k

pub returns-in_ok-now-in-For : goal.returns-in_ok-now-in-For
returns-in_ok-now-in-For c = λ t w k. c.in_ok-now-in-For.ensures t _ k ∙ turn-for _ _ _ _ _ c.new-in-For.result c.args.scene.now c.stand_at-in-For.new.scene c.in-For.is c.new-in-For.ensures c.stand_at-in-For.ensures c.args.store.now t w _
