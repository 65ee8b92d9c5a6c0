use Rattle.std.proofs.Common.{◌≡◌, take, map}
use Rattle.httparse.specs.Spans.{header_bytes}
use Rattle.request_map.specs.Heads.{header_of}
use Rattle.request_map.proofs.head.headers_at.Given as goal

abbrev pub invariant-loop-span : goal.invariant-loop-span
invariant-loop-span l = l.lines.items ≡ map header_of (map (header_bytes l.bytes) (take l.span-index l.spans))
