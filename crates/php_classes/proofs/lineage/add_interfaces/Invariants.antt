use Rattle.std.proofs.Common.{◌≡◌, drop}
use Rattle.php_classes.specs.Ancestors.{with_interfaces}
use Rattle.php_classes.proofs.lineage.add_interfaces.Given as goal

abbrev pub invariant-loop-interface : goal.invariant-loop-interface
invariant-loop-interface l = with_interfaces l.lineages l.numbers (drop l.interface-index l.interfaces) ≡ with_interfaces l.lineages l.initial.numbers l.interfaces
