use Rattle.std.proofs.Common.{rules, ◌∙◌}
use Rattle.php_place_steps.proofs.Written.{then-assign, then-unset}
use Rattle.php_place_steps.proofs.keys.use_path.Goals as goal

pub returns-in-Assign : goal.returns-in-Assign
returns-in-Assign c = λ t w k. then-assign _ _ _ _ _ _ _ _ c.in-Assign.is c.get.ensures c.in_ok-push-in-Assign.ensures.ok t _ k

pub returns : goal.returns
returns c = λ t w k. c.in_ok-now-in-Unset.ensures t w k ∙ then-unset _ _ _ _ _ c.in-Unset.is (search rules) t _ _
