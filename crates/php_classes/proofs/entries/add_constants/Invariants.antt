use Rattle.std.proofs.Common.{◌≡◌, ◌++◌, drop, map}
use Rattle.php_tree.specs.StatementOf.{class_constant_of}
use Rattle.php_classes.specs.Entries.{constant_entry}
use Rattle.php_classes.proofs.entries.add_constants.Given as goal

abbrev pub invariant-loop-constant : goal.invariant-loop-constant
invariant-loop-constant l = l.entries ++ map constant_entry (map class_constant_of (drop l.constant-index l.constants)) ≡ l.initial.entries ++ map constant_entry (map class_constant_of l.constants)
