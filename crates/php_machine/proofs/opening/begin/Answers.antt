use Rattle.php_world.specs.View.{vars_of}
use Rattle.php_machine.proofs.Openings.{begins_at}
use Rattle.php_machine.proofs.opening.begin.Goals as goal

pub returns-clause-law : goal.returns-clause-law
returns-clause-law c = λ look t linked fits. begins_at t c.in_ok-state.state c.args.program.now c.in_ok-state.ensures.program linked fits look c.new.result c.new-2.result c.args.input c.args.budget (vars_of t c.in_ok-store.store)
    c.new-2.ensures c.new.ensures (c.in_ok-store.ensures t) (c.in_ok-state.ensures.world t)
