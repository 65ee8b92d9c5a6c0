use Rattle.std.proofs.Common.{◌≡◌, drop}
use Rattle.php_values.specs.Data.{array_of}
use Rattle.script_input.specs.Inputs.{with_lines}
use Rattle.script_input.proofs.given.add_lines.Given as goal

abbrev pub invariant-loop-header : goal.invariant-loop-header
invariant-loop-header l = with_lines (drop l.header-index l.headers) (array_of l.map) ≡ with_lines l.headers (array_of l.initial.map)
