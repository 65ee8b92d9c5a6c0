use Rattle.php_machine.proofs.Kept.{at_first, more_steps, last_step}
use Rattle.php_machine.proofs.machine.Machine.advance.Goals as goal

pub steps-init : goal.steps-init
steps-init g c = at_first c.args.bodies.now c.args.self.now c.args.now

pub steps-preserved : goal.steps-preserved
steps-preserved g c = more_steps c.args.bodies.now c.args.self.now c.steps.self c.one.new.self c.args.now c.steps.next c.in_ok-now.field-0 c.in-More.now c.in-More.is c.steps.invariant c.in_ok-now.ensures.law c.in_ok-now.ensures.keeps

pub returns-in-Over-clause-law : goal.returns-in-Over-clause-law
returns-in-Over-clause-law g c = (last_step c.args.bodies.now c.args.self.now c.steps.self c.one.new.self c.args.now c.steps.next c.in_ok-now.field-0 c.in-Over.end c.in-Over.is c.steps.invariant c.in_ok-now.ensures.law c.in_ok-now.ensures.keeps).0

pub returns-in-Over-clause-keeps : goal.returns-in-Over-clause-keeps
returns-in-Over-clause-keeps g c = (last_step c.args.bodies.now c.args.self.now c.steps.self c.one.new.self c.args.now c.steps.next c.in_ok-now.field-0 c.in-Over.end c.in-Over.is c.steps.invariant c.in_ok-now.ensures.law c.in_ok-now.ensures.keeps).1
