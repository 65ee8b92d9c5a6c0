use Rattle.php_renumber.specs.Numbers.{number_in}
use Rattle.php_renumber.proofs.Each.{each_begins, each_goes_on, each_ends}
use Rattle.php_renumber.proofs.Parts.{IsClassConstant, class_constants_are}
use Rattle.php_renumber.proofs.part.class_consts.Goals as goal

pub loop-one-init : goal.loop-one-init
loop-one-init c = each_begins (IsClassConstant (number_in c.args.numbers.now)) c.args.all.now c.new-copies.result c.new-copies.ensures

pub loop-one-preserved : goal.loop-one-preserved
loop-one-preserved c = each_goes_on (IsClassConstant (number_in c.args.numbers.now)) c.args.all.now c.loop-one.one-index c.one-item.result c.loop-one.copies c.in_ok-copy.copy c.push.new.self c.loop-one-test.true c.one-item.is c.loop-one.invariant c.in_ok-copy.ensures c.in_ok-push.ensures.ok

pub returns : goal.returns
returns c = class_constants_are (number_in c.args.numbers.now) c.args.all.now c.loop-one.copies (each_ends (IsClassConstant (number_in c.args.numbers.now)) c.args.all.now c.loop-one.one-index c.loop-one.copies c.loop-one-test.false c.loop-one.invariant)
