use Rattle.std.proofs.Common.{◌≡◌, length}
use Rattle.less_outside.proofs.Taken.{Taken}
use Rattle.less_outside.proofs.sink_real.SinkRealSink.write.Given as goal

abbrev pub invariant-loop-rest : goal.invariant-loop-rest
invariant-loop-rest g l = record {
  taken : Taken (g.W.Write.contents l.fn.self.writer) (g.W.Write.contents l.self.writer) l.bytes l.rest;
  faults : l.self.faults ≡ l.fn.self.faults;
}

abbrev pub decreases-loop-rest : goal.decreases-loop-rest
decreases-loop-rest g l = length l.rest
