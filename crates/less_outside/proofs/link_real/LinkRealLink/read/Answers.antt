use Rattle.std.proofs.Common.{arith}
use Rattle.less_outside.proofs.Consumed.{ends}
use Rattle.less_outside.proofs.link_real.LinkRealLink.read.Goals as goal

pub returns-in-Ok-clause-end : goal.returns-in-Ok-clause-end
returns-in-Ok-clause-end g c = ends _ _ c.read.new.buf _ c.in-Ok.count (omega (arith, c.read.auto.buf)) c.in-Ok.ensures.bound.0 c.in-Ok.ensures.bytes.0 c.in-Ok.ensures.bytes.1
