use Rattle.std.proofs.Common.{◌≡◌, drop}
use Rattle.order_map.specs.Arrays.{pairs_of, place_of}
use Rattle.php_values.specs.Data.{array_of, data_pairs}
use Rattle.php_values.specs.Arithmetic.{with_missing}
use Rattle.php_values.proofs.union.add_missing.Given as goal

abbrev pub invariant-loop-number : goal.invariant-loop-number
invariant-loop-number l = record {
  place : l.place ≡ place_of l.from l.number;
  rest : with_missing (array_of l.map) (data_pairs (drop l.number (pairs_of l.from))) ≡ with_missing (array_of l.initial.map) (data_pairs (pairs_of l.from));
}
