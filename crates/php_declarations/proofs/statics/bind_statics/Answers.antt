use Rattle.std.proofs.Common.{arith}
use Rattle.php_declarations.proofs.Fitting.{steps, ends, keeps_both}
use Rattle.php_declarations.proofs.statics.bind_statics.Goals as goal

pub returns-in-Some-clause-keeps : goal.returns-in-Some-clause-keeps
returns-in-Some-clause-keeps c = keeps_both c.args.state.now c.loop-variable.state c.bind_static.new.state c.loop-variable.invariant.keeps c.in_ok-why.ensures.keeps

pub returns-in-Some-clause-law : goal.returns-in-Some-clause-law
returns-in-Some-clause-law c =
    ends c.args.state.now c.loop-variable.state c.bind_static.new.state c.args.variables.now c.loop-variable.variable-index c.variable-item.result _ c.in-Some.why (omega (arith, c.loop-variable-test.true)) c.variable-item.is c.in_ok-why.ensures.keeps c.in_ok-why.ensures.law c.loop-variable.invariant c.in-Some.is

pub loop-variable-preserved : goal.loop-variable-preserved
loop-variable-preserved c =
    steps c.args.state.now c.loop-variable.state c.bind_static.new.state c.args.variables.now c.loop-variable.variable-index c.variable-item.result c.in_ok-why.field-0 (omega (arith, c.loop-variable-test.true)) c.variable-item.is c.in_ok-why.ensures.keeps c.in_ok-why.ensures.law
    c.loop-variable.invariant c.in_default.is
