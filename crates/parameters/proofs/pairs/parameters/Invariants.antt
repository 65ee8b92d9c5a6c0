use Rattle.std.proofs.Common.{◌≡◌, ◌-◌, take}
use Rattle.form_urlencoded.specs.Parse.{raw_pairs_left}
use Rattle.php_values.specs.Data.{array_of}
use Rattle.parameters.specs.Parameters.{with_pairs, parameters_of}
use Rattle.parameters.proofs.pairs.parameters.Given as goal

abbrev pub invariant-loop : goal.invariant-loop
invariant-loop l = with_pairs (take (1000 - l.counter) (raw_pairs_left l.pairs)) (array_of l.map) ≡ parameters_of l.input
