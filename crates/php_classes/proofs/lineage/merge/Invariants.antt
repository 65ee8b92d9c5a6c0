use Rattle.std.proofs.Common.{◌≡◌, drop}
use Rattle.php_classes.specs.Ancestors.{merged}
use Rattle.php_classes.proofs.lineage.merge.Given as goal

abbrev pub invariant-loop-number : goal.invariant-loop-number
invariant-loop-number l = merged l.numbers (drop l.number-index l.more) ≡ merged l.initial.numbers l.more
