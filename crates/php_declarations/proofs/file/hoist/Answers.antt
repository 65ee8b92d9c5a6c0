use Rattle.std.proofs.Common.{arith}
use Rattle.php_declarations.proofs.Hoists.{goes_on, ends, finished}
use Rattle.php_declarations.proofs.file.hoist.Goals as goal

pub returns-in-Some : goal.returns-in-Some
returns-in-Some c =
    ends c.args.path.now c.args.functions.now c.loop-x.functions c.hoist_next.new.functions c.args.file.now c.loop-x.x-index c.x-item.result c.in_ok-line.field-0 c.in-Some.line (omega (arith, c.loop-x-test.true)) c.x-item.is c.in_ok-line.ensures c.loop-x.invariant c.in-Some.is

pub loop-x-preserved : goal.loop-x-preserved
loop-x-preserved c =
    goes_on c.args.path.now c.args.functions.now c.loop-x.functions c.hoist_next.new.functions c.args.file.now c.loop-x.x-index c.x-item.result c.in_ok-line.field-0 (omega (arith, c.loop-x-test.true)) c.x-item.is c.in_ok-line.ensures c.loop-x.invariant c.in_default.is

pub returns : goal.returns
returns c = finished c.args.path.now c.args.functions.now c.loop-x.functions c.args.file.now c.loop-x.x-index (omega (arith, c.loop-x-test.false)) c.loop-x.invariant
