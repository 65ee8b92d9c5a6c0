use Rattle.std.proofs.Common.{arith}
use Rattle.php_declarations.proofs.Values.{goes_on, ends}
use Rattle.php_declarations.proofs.consts.add_constants.Goals as goal

pub returns-in-Some : goal.returns-in-Some
returns-in-Some c =
    ends c.args.path.now c.args.constants.now c.loop-constant.constants c.add_next.new.constants c.args.declared.now c.loop-constant.constant-index c.constant-item.result _ c.in-Some.why (omega (arith, c.loop-constant-test.true)) c.constant-item.is c.in_ok-why.ensures c.loop-constant.invariant c.in-Some.is

pub loop-constant-preserved : goal.loop-constant-preserved
loop-constant-preserved c =
    goes_on c.args.path.now c.args.constants.now c.loop-constant.constants c.add_next.new.constants c.args.declared.now c.loop-constant.constant-index c.constant-item.result c.in_ok-why.field-0 (omega (arith, c.loop-constant-test.true)) c.constant-item.is c.in_ok-why.ensures
    c.loop-constant.invariant c.in_default.is
