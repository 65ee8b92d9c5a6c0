use Rattle.std.proofs.Common.{◌≡◌, take, map}
use Rattle.php_renumber.specs.Numbers.{number_in}
use Rattle.php_renumber.proofs.part.variables.Given as goal

abbrev pub invariant-loop-one : goal.invariant-loop-one
invariant-loop-one l = l.copies ≡ map (number_in l.numbers) (take l.one-index l.all)
