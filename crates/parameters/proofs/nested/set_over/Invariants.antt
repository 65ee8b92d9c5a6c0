use Rattle.std.proofs.Common.{◌≡◌, length}
use Rattle.order_map.specs.Arrays.{pairs_of}
use Rattle.php_values.specs.Data.{array_of, data_pairs}
use Rattle.php_values.specs.Walks.{rest_of}
use Rattle.parameters.specs.Nested.{set_over}
use Rattle.parameters.proofs.nested.set_over.Given as goal

abbrev pub invariant-loop-key : goal.invariant-loop-key
invariant-loop-key l = set_over (data_pairs (rest_of l.walk)) (array_of l.map) ≡ set_over (data_pairs (pairs_of l.over)) (array_of l.initial.map)

abbrev pub decreases-loop-key : goal.decreases-loop-key
decreases-loop-key l = length (rest_of l.walk)
