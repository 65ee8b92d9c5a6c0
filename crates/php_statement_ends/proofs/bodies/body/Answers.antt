use Rattle.std.proofs.Common.{arith, ◌∙◌}
use Rattle.php_rest.specs.Rest.{rest, loop_again, loop_named}
use Rattle.php_statement_steps.specs.Standing.{stands}
use Rattle.php_statement_ends.proofs.Leaving.{loop-broken, loop-again, loop-continued}
use Rattle.php_statement_ends.proofs.bodies.body.Goals as goal

pub returns-in-Breaks : goal.returns-in-Breaks
returns-in-Breaks c = λ t w k. loop-broken _ _ _ c.in-Breaks.is c.behind_break.ensures (loop_again (loop_named t c.args.of)) (rest t c.args.stack.now k) (stands t c.args.store.now c.args.scene.now w)
