use Rattle.std.proofs.Common.{refl}
use Rattle.less_outside.proofs.Consumed.{stays}
use Rattle.less_outside.proofs.Taken.{nothing_taken, more_taken}
use Rattle.less_outside.proofs.link_real.LinkRealLink.write.Goals as goal

pub loop-rest-init : goal.loop-rest-init
loop-rest-init g c = record { taken = nothing_taken _ _; faults = refl; reads = refl; left = stays _ }

pub loop-rest-preserved : goal.loop-rest-preserved
loop-rest-preserved g c = record {
  taken = rw c.split_at.ensures.back (more_taken _ _ _ _ _ c.in-Ok.taken c.loop-rest.invariant.taken c.in-Ok.ensures.bytes);
  faults = c.loop-rest.invariant.faults;
  reads = c.loop-rest.invariant.reads;
  left = c.loop-rest.invariant.left;
}
