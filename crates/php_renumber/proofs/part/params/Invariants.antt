use Rattle.std.proofs.Common.{take}
use Rattle.php_renumber.specs.Numbers.{number_in}
use Rattle.php_renumber.proofs.Each.{Each}
use Rattle.php_renumber.proofs.Parts.{IsParam}
use Rattle.php_renumber.proofs.part.params.Given as goal

abbrev pub invariant-loop-one : goal.invariant-loop-one
invariant-loop-one l = Each (IsParam (number_in l.numbers)) (take l.one-index l.all) l.copies
