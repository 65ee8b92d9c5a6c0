use Rattle.std.proofs.Common.{◌≡◌, ◌≤◌, ◌-◌, ◌++◌, take, drop}
use Rattle.std.specs.List.{flat_map}
use Rattle.php_text_calls.specs.Escapes.{escaped_byte}
use Rattle.php_text_calls.proofs.escape.written.Given as goal

abbrev pub invariant-loop-i : goal.invariant-loop-i
invariant-loop-i l = record {
  within : l.from ≤ l.i;
  done : l.out.items ++ (take (l.i - l.from) (drop l.from l.text) ++ flat_map (escaped_byte l.escape) (drop l.i l.text)) ≡ flat_map (escaped_byte l.escape) l.text;
}
