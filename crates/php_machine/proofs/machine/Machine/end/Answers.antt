use Rattle.php_state.specs.Views.{world_of}
use Rattle.php_machine.proofs.Ended.{over}
use Rattle.php_machine.proofs.machine.Machine.end.Goals as goal

pub returns-in-None-clause-law : goal.returns-in-None-clause-law
returns-in-None-clause-law g c = λ look t fits. over (look t) c.args.self.now.tally t (world_of t c.args.self.now.state) c.args.ending c.args.self.now.stack c.in-None.ensures.0
