use Rattle.php_world.proofs.Writes.{appended}
use Rattle.php_world.proofs.write.append.Goals as goal

pub returns-in-Ok-clause-ok : goal.returns-in-Ok-clause-ok
returns-in-Ok-clause-ok c = appended c.args.value c.args.map.now c.append.new.self c.in-Ok.ensures.pairs c.in-Ok.ensures.next
