use Rattle.php_functions.proofs.Walks.{numbered_step}
use Rattle.php_functions.proofs.list.numbered.Goals as goal

pub loop-name-preserved : goal.loop-name-preserved
loop-name-preserved c = numbered_step c.loop-name.yielded c.loop-name.list c.push.new.self c.loop-name.count c.in-Some-checked_add.ordinal c.in-Some.name c.in-Some.span c.loop-name.invariant c.in-Some-checked_add.ensures.1 c.in_ok-push.ensures.ok
