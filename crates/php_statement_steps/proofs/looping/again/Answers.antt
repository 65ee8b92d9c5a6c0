use Rattle.std.proofs.Common.{◌∙◌}
use Rattle.php_values.specs.Data.{null}
use Rattle.php_statement_steps.proofs.Going.{again-do, again-for}
use Rattle.php_statement_steps.proofs.looping.again.Goals as goal

pub returns-in_ok-push-in-Do : goal.returns-in_ok-push-in-Do
returns-in_ok-push-in-Do c = λ t w k. again-do _ _ _ _ _ _ _ c.args.scene.now c.stand_at.new.scene c.in-Do.is c.get.ensures c.in_ok-push-in-Do.ensures.ok c.stand_at.ensures c.args.store.now t w k

pub returns-in_ok-now-in-For : goal.returns-in_ok-now-in-For
returns-in_ok-now-in-For c = λ t w k. c.in_ok-now-in-For.ensures null t _ k ∙ again-for _ _ _ _ _ c.new.result c.args.scene.now c.stand_at-in-For.new.scene c.in-For.is c.new.ensures c.stand_at-in-For.ensures c.args.store.now t w _
