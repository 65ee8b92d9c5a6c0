use Rattle.php_meaning.specs.Trace.{finish}
use Rattle.php_rest.specs.Rest.{rest}
use Rattle.php_state.specs.Views.{world_of}
use Rattle.php_machine.proofs.Entered.{file_entered, file_refused}
use Rattle.php_machine.proofs.machine.Machine.enter_file.Goals as goal

pub returns-in-None-clause-law : goal.returns-in-None-clause-law
returns-in-None-clause-law g c = λ look at t fits. file_entered (look t) t c.args.self.now.tally c.enter.new.self c.args.path.now c.args.statements.now c.as_slice.result.now c.args.self.now.state.functions c.hoist.new.functions c.in_ok-refused.refused (world_of t c.args.self.now.state) (rest t c.args.self.now.stack finish)
    c.new.result (c.in_ok-enter.ensures (look t)) (at t) c.as_slice.ensures c.in-None.is (c.in_ok-refused.ensures t (world_of t c.args.self.now.state)) c.new.ensures

pub returns-in-Some-clause-law : goal.returns-in-Some-clause-law
returns-in-Some-clause-law g c = λ look at t fits. file_refused (look t) t c.args.self.now.tally c.enter.new.self c.args.path.now c.args.statements.now c.as_slice.result.now c.args.self.now.state.functions c.hoist.new.functions c.in_ok-refused.refused (world_of t c.args.self.now.state) (rest t c.args.self.now.stack finish)
    c.in-Some.line (c.in_ok-enter.ensures (look t)) (at t) c.as_slice.ensures c.in-Some.is (c.in_ok-refused.ensures t (world_of t c.args.self.now.state))
