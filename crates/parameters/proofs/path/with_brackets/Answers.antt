use Rattle.std.proofs.Common.{◌∙◌, ◌-◌, arith}
use Rattle.parameters.proofs.Bracketing.{ended, full, not_closed, one_more}
use Rattle.parameters.proofs.path.with_brackets.Goals as goal

pub returns-in_default : goal.returns-in_default
returns-in_default c = ended (8 - c.loop.counter) c.loop.path.items c.loop.rest.now c.in_default.ensures ∙ c.loop.invariant

pub returns-in_default-close_at : goal.returns-in_default-close_at
returns-in_default-close_at c =
    not_closed c.loop.counter c.loop.path.items c.loop.rest.now c.in-Some.inside.now (omega arith) c.in-Some.ensures.0 c.in-Some.ensures.1 c.in_default-close_at.ensures.value ∙ c.loop.invariant

pub loop-preserved : goal.loop-preserved
loop-preserved c =
    one_more c.loop.counter c.in-Some-close_at.end c.loop.path.items c.push.new.self.items c.in_ok-step_of.field-0 c.loop.rest.now c.in-Some.inside.now c.split_at.result.0.now c.split_at-in-loop.result.1.now
    (omega arith) c.in-Some.ensures.0 c.in-Some.ensures.1 c.in-Some-close_at.ensures.value c.split_at.ensures.front c.split_at-in-loop.ensures.back c.in_ok-step_of.ensures c.in_ok-push.ensures.items
    ∙ c.loop.invariant

pub returns-in-Some-after_open : goal.returns-in-Some-after_open
returns-in-Some-after_open c = full c.loop.counter c.loop.path.items c.loop.rest.now (omega arith) c.in-Some-after_open.ensures.0 ∙ c.loop.invariant

pub returns-in-None : goal.returns-in-None
returns-in-None c = ended (8 - c.loop.counter) c.loop.path.items c.loop.rest.now c.in-None.ensures ∙ c.loop.invariant
