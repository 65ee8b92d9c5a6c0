use Rattle.std.proofs.Common.{◌≡◌, ◌++◌, drop}
use Rattle.php_classes.specs.Declaring.{numbers_of}
use Rattle.php_classes.proofs.table.ClassTable.numbers_of.Given as goal

abbrev pub invariant-loop-name : goal.invariant-loop-name
invariant-loop-name l = l.numbers ++ numbers_of l.self (drop l.name-index l.names) ≡ numbers_of l.self l.names
