use Rattle.std.proofs.Common.{◌∙◌}
use Rattle.php_place_steps.proofs.Written.{step-post}
use Rattle.php_place_steps.proofs.begin.begin_step.Goals as goal

pub returns-in_ok-now-in-Post : goal.returns-in_ok-now-in-Post
returns-in_ok-now-in-Post c = λ t w k. c.in_ok-now-in-Post.ensures t w k ∙ step-post _ _ _ _ c.new-in-Post.result _ _ _ _ _ c.in-Post.is c.get.ensures c.in-Var-get.is c.new-in-Post.ensures c.new.ensures t _ _
