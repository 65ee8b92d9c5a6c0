use Rattle.std.proofs.Common.{◌∙◌}
use Rattle.php_place_steps.proofs.Written.{keys-behind}
use Rattle.php_place_steps.proofs.keys.resume_behind.Goals as goal

pub returns-in-Normal : goal.returns-in-Normal
returns-in-Normal c = λ t w k. c.in_ok-now-in-Normal.ensures t w k ∙ keys-behind _ c.in-KeysBehind.path c.in-KeysBehind.more c.in-KeysBehind.target _ c.in-KeysBehind.is c.in-Normal.is t _ _
