use Rattle.std.proofs.Common.{◌≡◌, length}
use Rattle.request_map.specs.Reading.{IsScanning, OnlyReads}
use Rattle.request_map.proofs.reading.read_head.Given as goal

abbrev pub invariant-head : goal.invariant-head
invariant-head g l = record {
  scans : IsScanning (g.L.Link.left l.fn.link) (g.L.Link.left l.link) l.bytes.items l.scan;
  index : length l.bytes.items ≡ l.counter;
  only : OnlyReads (g.L.Link.read_count l.fn.link) (g.L.Link.read_count l.link) (g.L.Link.sent l.fn.link) (g.L.Link.sent l.link) (g.L.Link.write_count l.fn.link) (g.L.Link.write_count l.link);
}
