use Rattle.std.proofs.Common.{◌∙◌}
use Rattle.php_place_steps.proofs.Written.{key-given}
use Rattle.php_place_steps.proofs.keys.resume_place.Goals as goal

pub returns-in-KeyIn : goal.returns-in-KeyIn
returns-in-KeyIn c = λ t w k. c.in_ok-now-in-KeyIn.ensures t w k ∙ key-given _ c.in-KeyIn.path c.push.new.self c.args.value c.in-KeyIn.more c.in-KeyIn.target c.in-KeyIn.is c.in_ok-push-in-KeyIn.ensures.ok t _ _
