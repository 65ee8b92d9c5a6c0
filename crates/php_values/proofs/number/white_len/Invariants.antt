use Rattle.std.proofs.Common.{◌≡◌, ◌+◌, drop}
use Rattle.std.specs.List.{prefix_len}
use Rattle.php_values.specs.Convert.{is_white}
use Rattle.php_values.proofs.number.white_len.Given as goal

abbrev pub invariant-loop-i : goal.invariant-loop-i
invariant-loop-i l = prefix_len is_white l.text ≡ l.i + prefix_len is_white (drop l.i l.text)
