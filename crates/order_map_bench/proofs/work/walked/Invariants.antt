use Rattle.std.proofs.Common.{◌≡◌}
use Rattle.order_map.specs.Arrays.{place_of}
use Rattle.order_map_bench.proofs.work.walked.Given as goal

abbrev pub invariant-loop-number : goal.invariant-loop-number
invariant-loop-number l = l.place ≡ place_of l.map l._number
