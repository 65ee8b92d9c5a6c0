use Rattle.std.proofs.Common.{take}
use Rattle.php_renumber.specs.Numbers.{number_in}
use Rattle.php_renumber.proofs.Each.{Each}
use Rattle.php_renumber.proofs.Parts.{IsClassConstant}
use Rattle.php_renumber.proofs.part.class_consts.Given as goal

abbrev pub invariant-loop-one : goal.invariant-loop-one
invariant-loop-one l = Each (IsClassConstant (number_in l.numbers)) (take l.one-index l.all) l.copies
