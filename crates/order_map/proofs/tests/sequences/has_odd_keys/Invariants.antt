use Rattle.std.proofs.Common.{◌≡◌, ℕ}
use Rattle.order_map.specs.Arrays.{place_of}
use Rattle.order_map.proofs.tests.sequences.has_odd_keys.Given as goal

abbrev pub invariant-loop-number : goal.invariant-loop-number
invariant-loop-number l = (i : ℕ) × (l.place ≡ place_of l.map i)
