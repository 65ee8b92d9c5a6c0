use Rattle.std.proofs.Common.{◌≤◌, ◌-◌, length, take}
use Rattle.std.specs.Io.KnownBytes.{Consumes}
use Rattle.request_map.specs.Reading.{OnlyReads}
use Rattle.request_map.proofs.reading.fill.Given as goal

abbrev pub invariant-loop-at : goal.invariant-loop-at
invariant-loop-at g l = record {
  within : l.at ≤ length l.room;
  taken : Consumes (g.L.Link.left l.fn.link) (g.L.Link.left l.link) (take l.at l.room);
  only : OnlyReads (g.L.Link.read_count l.fn.link) (g.L.Link.read_count l.link) (g.L.Link.sent l.fn.link) (g.L.Link.sent l.link) (g.L.Link.write_count l.fn.link) (g.L.Link.write_count l.link);
}

abbrev pub decreases-loop-at : goal.decreases-loop-at
decreases-loop-at g l = length l.room - l.at
