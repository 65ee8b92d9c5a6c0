use Rattle.std.proofs.Common.{◌≡◌}
use Rattle.order_map.specs.Arrays.{place_of}
use Rattle.order_map.proofs.tests.sequences.same.Given as goal

abbrev pub invariant-loop-i : goal.invariant-loop-i
invariant-loop-i l = l.place ≡ place_of l.map l.i
