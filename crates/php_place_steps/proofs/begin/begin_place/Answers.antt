use Rattle.std.proofs.Common.{◌∙◌}
use Rattle.php_place_steps.proofs.Written.{begun-assign, begun-step}
use Rattle.php_place_steps.proofs.begin.begin_place.Goals as goal

pub returns-in_ok-now-in-Assign : goal.returns-in_ok-now-in-Assign
returns-in_ok-now-in-Assign c = λ t w k. c.in_ok-now-in-Assign.ensures t w k ∙ begun-assign _ _ _ _ _ _ _ c.in-Assign.is c.get.ensures t _ _

pub returns-in_ok-now-in-Step : goal.returns-in_ok-now-in-Step
returns-in_ok-now-in-Step c = λ t w k. c.in_ok-now-in-Step.ensures t w k ∙ begun-step _ _ _ _ _ _ c.in-Step.is c.get-in-Step.ensures t _ _
