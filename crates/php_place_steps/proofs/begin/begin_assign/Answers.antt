use Rattle.std.proofs.Common.{◌∙◌}
use Rattle.php_place_steps.proofs.Written.{assign-var, assign-post}
use Rattle.php_place_steps.proofs.begin.begin_assign.Goals as goal

pub returns-in_ok-push-in-Var : goal.returns-in_ok-push-in-Var
returns-in_ok-push-in-Var c = λ t w k. assign-var _ _ _ _ _ _ _ _ _ c.in-Var.is c.get.ensures c.new-path.ensures c.in_ok-push-in-Var.ensures.ok t _ k

pub returns-in_ok-now-in-Post : goal.returns-in_ok-now-in-Post
returns-in_ok-now-in-Post c = λ t w k. c.in_ok-now-in-Post.ensures t w k ∙ assign-post _ _ _ _ c.new-in-Post.result _ _ _ _ c.args.value _ c.in-Post.is c.get-in-Post.ensures c.in-Var-get.is c.new-in-Post.ensures c.new.ensures t _ _
