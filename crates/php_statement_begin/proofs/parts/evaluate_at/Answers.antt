use Rattle.php_statement_begin.proofs.Places.{evaluated_at}
use Rattle.php_statement_begin.proofs.parts.evaluate_at.Goals as goal

pub returns : goal.returns
returns c = λ t w k. evaluated_at c.args.store.now c.args.scene.now c.stand_at.new.scene _ _ _ _ c.args.frame c.args.line c.get.ensures c.in_ok-push.ensures.ok c.stand_at.ensures t w k
