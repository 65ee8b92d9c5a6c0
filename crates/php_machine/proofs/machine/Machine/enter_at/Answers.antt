use Rattle.php_rest.specs.declared.owner.Owner.TheVariants as owner
use Rattle.php_machine.proofs.Entered.{entered_as}
use Rattle.php_machine.proofs.machine.Machine.enter_at.Goals as goal

pub returns-in_ok-next-in-File-clause-law : goal.returns-in_ok-next-in-File-clause-law
returns-in_ok-next-in-File-clause-law g c = λ look at. entered_as look c.args.self.now c.enter_file.new.self c.args.owner (owner.File c.in-File.path) c.args.statements c.in_ok-next-in-File.next c.in-File.is (c.in_ok-next-in-File.ensures.law look) at

pub returns-in_ok-next-in-Function-clause-law : goal.returns-in_ok-next-in-Function-clause-law
returns-in_ok-next-in-Function-clause-law g c = λ look at. entered_as look c.args.self.now c.enter_body.new.self c.args.owner (owner.Function c.in-Function.function) c.args.statements c.in_ok-next-in-Function.next c.in-Function.is (c.in_ok-next-in-Function.ensures.law look) at
