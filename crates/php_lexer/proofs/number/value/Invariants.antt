use Rattle.std.proofs.Common.{◌≡◌, ◌+◌, ◌-◌, ◌*◌, ◌^◌, ◌≤◌, length, drop}
use Rattle.php_lexer.specs.Numbers.{value}
use Rattle.php_lexer.specs.declared.number.TheConstants.{MAX_INT}
use Rattle.php_lexer.proofs.number.value.Given as goal

abbrev pub invariant-loop-b : goal.invariant-loop-b
invariant-loop-b l =
    (l.number * l.base ^ (length l.digits - l.b-index) + value l.base (drop l.b-index l.digits) ≡ value l.base l.digits) × (l.number ≤ MAX_INT)
