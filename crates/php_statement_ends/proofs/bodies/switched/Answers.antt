use Rattle.php_rest.specs.Rest.{rest}
use Rattle.php_statement_ends.proofs.Leaving.{switch-broken, switch-continued}
use Rattle.php_statement_ends.proofs.bodies.switched.Goals as goal

pub returns-in-Breaks : goal.returns-in-Breaks
returns-in-Breaks c = λ s t w k. switch-broken _ _ _ c.in-Breaks.is c.behind_break.ensures (rest t s k) w

pub returns-in-Continues : goal.returns-in-Continues
returns-in-Continues c = λ s t w k. switch-continued _ _ _ c.in-Continues.is c.behind_continue.ensures (rest t s k) w
