use Rattle.std.proofs.Common.{◌≡◌, drop}
use Rattle.php_classes.specs.LookUp.{first_among}
use Rattle.php_classes.proofs.look_up.first_among.Given as goal

abbrev pub invariant-loop-number : goal.invariant-loop-number
invariant-loop-number l = first_among l.classes l.kind l.name (drop l.number-index l.numbers) ≡ first_among l.classes l.kind l.name l.numbers
