use Rattle.std.proofs.Common.{◌≡◌, ◌+◌, ◌-◌, ◌≤◌, length, drop}
use Rattle.php_lexer.specs.Until.{until}
use Rattle.php_lexer.proofs.until.until.Given as goal

abbrev pub invariant-marks : goal.invariant-marks
invariant-marks l = (l.at + until l.stop (drop l.at l.z) ≡ until l.stop l.z) × (l.at ≤ length l.z)

abbrev pub decreases-marks : goal.decreases-marks
decreases-marks l = length l.z - l.at
