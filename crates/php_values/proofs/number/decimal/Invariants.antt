use Rattle.std.proofs.Common.{◌≡◌, ◌≤◌, ◌^◌, drop}
use Rattle.php_values.specs.Convert.{digits_from}
use Rattle.php_values.proofs.number.decimal.Given as goal

abbrev pub invariant-loop-b : goal.invariant-loop-b
invariant-loop-b l = (digits_from 0 l.digits ≡ digits_from l.n (drop l.b-index l.digits)) × (l.n ≤ 2 ^ 63)
