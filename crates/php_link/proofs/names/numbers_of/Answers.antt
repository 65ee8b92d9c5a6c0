use Rattle.php_link.proofs.Goings.{begun, one_more, all_numbered}
use Rattle.php_link.proofs.names.numbers_of.Goals as goal

pub loop-variable-init : goal.loop-variable-init
loop-variable-init c = begun c.args.names.now c.args.variables.now c.new-others.result c.requires.same c.new-others.ensures

pub number_of-requires : goal.number_of-requires
number_of-requires c = c.loop-variable.invariant.goes.same

pub loop-variable-preserved : goal.loop-variable-preserved
loop-variable-preserved c = one_more c.args.names.now c.loop-variable.names c.number_of.new.names c.args.variables.now c.loop-variable.variable-index c.variable-item.result c.in_ok-number.number c.loop-variable.others c.push.new.self c.as_slice.result.now c.loop-variable.invariant c.loop-variable-test.true c.variable-item.is c.as_slice.ensures c.in_ok-number.ensures c.in_ok-push.ensures.ok

pub returns : goal.returns
returns c = all_numbered c.args.names.now c.loop-variable.names c.args.variables.now c.loop-variable.variable-index c.loop-variable.others c.requires.unnamed c.loop-variable-test.false c.loop-variable.invariant
