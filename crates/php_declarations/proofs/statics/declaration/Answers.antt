use Rattle.php_declarations.proofs.Keys.{at_number, at_end, kept}
use Rattle.php_declarations.proofs.statics.declaration.Goals as goal

pub returns-in-Some-clause-number : goal.returns-in-Some-clause-number
returns-in-Some-clause-number c = at_number c.args.statics.now c.args.key.now c.in-Some.number c.in-Some.ensures

pub returns-clause-number : goal.returns-clause-number
returns-clause-number c = at_end c.args.statics.now c.add.new.self c.args.key.now c.len-number.result c.in_ok-add.ensures.ok c.len-number.ensures

pub returns-clause-kept : goal.returns-clause-kept
returns-clause-kept c = kept c.args.statics.now c.add.new.self c.args.key.now c.in_ok-add.ensures.ok
