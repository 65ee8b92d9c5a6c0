use Rattle.std.proofs.Common.{◌≡◌, length}
use Rattle.std.specs.List.{slice_split}
use Rattle.php_values.specs.Data.{array_of}
use Rattle.parameters.specs.Cookies.{is_semicolon, with_cookies}
use Rattle.parameters.proofs.cookies.add_cookies.Given as goal

abbrev pub invariant-loop-end : goal.invariant-loop-end
invariant-loop-end l = with_cookies (slice_split is_semicolon l.rest) (array_of l.map) ≡ with_cookies (slice_split is_semicolon l.initial.rest) (array_of l.initial.map)

abbrev pub decreases-loop-end : goal.decreases-loop-end
decreases-loop-end l = length l.rest
