use Rattle.std.proofs.Common.{sym, ◌∙◌}
use Rattle.php_world.proofs.Writes.{taken}
use Rattle.php_world.proofs.write.take_array.Goals as goal

pub returns-in-List : goal.returns-in-List
returns-in-List c = taken c.args.old.now c.in-List.array (sym c.replace.ensures.value ∙ c.in-List.is)
