use Rattle.std.proofs.Common.{◌≡◌, length}
use Rattle.less_outside.specs.Told.{Stays}
use Rattle.less_outside.proofs.Taken.{Taken}
use Rattle.less_outside.proofs.link_real.LinkRealLink.write.Given as goal

abbrev pub invariant-loop-rest : goal.invariant-loop-rest
invariant-loop-rest g l = record {
  taken : Taken (g.W.Write.contents l.fn.self.writer) (g.W.Write.contents l.self.writer) l.bytes l.rest;
  faults : l.self.write_faults ≡ l.fn.self.write_faults;
  reads : l.self.read_faults ≡ l.fn.self.read_faults;
  left : Stays (g.R.Read.remaining l.fn.self.reader) (g.R.Read.remaining l.self.reader);
}

abbrev pub decreases-loop-rest : goal.decreases-loop-rest
decreases-loop-rest g l = length l.rest
