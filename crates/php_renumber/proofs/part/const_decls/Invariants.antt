use Rattle.std.proofs.Common.{take}
use Rattle.php_renumber.specs.Numbers.{number_in}
use Rattle.php_renumber.proofs.Each.{Each}
use Rattle.php_renumber.proofs.Parts.{IsConstant}
use Rattle.php_renumber.proofs.part.const_decls.Given as goal

abbrev pub invariant-loop-one : goal.invariant-loop-one
invariant-loop-one l = Each (IsConstant (number_in l.numbers)) (take l.one-index l.all) l.copies
