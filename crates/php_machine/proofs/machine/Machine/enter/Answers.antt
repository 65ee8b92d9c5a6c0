use Rattle.php_meaning.specs.Trace.{finish}
use Rattle.php_rest.specs.Rest.{rest}
use Rattle.php_rest.specs.Views.{entry_of}
use Rattle.php_state.specs.Views.{world_of}
use Rattle.php_machine.proofs.Entered.{entered_at, not_entered}
use Rattle.php_machine.proofs.machine.Machine.enter.Goals as goal

pub returns-in-None-clause-law : goal.returns-in-None-clause-law
returns-in-None-clause-law g c = λ look at t fits. not_entered (look t) t c.args.self.now.tally (entry_of c.args.owner) (world_of t c.args.self.now.state) (rest t c.args.self.now.stack finish) c.args.found c.in-None.is (at t)

pub returns-in_ok-next-in-Some-clause-law : goal.returns-in_ok-next-in-Some-clause-law
returns-in_ok-next-in-Some-clause-law g c = λ look at. entered_at look c.args.self.now c.enter_at.new.self c.args.owner c.args.found c.in-Some.statements c.in_ok-next-in-Some.next c.in-Some.is (c.in_ok-next-in-Some.ensures.law look) at
