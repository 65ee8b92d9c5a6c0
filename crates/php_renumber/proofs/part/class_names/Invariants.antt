use Rattle.std.proofs.Common.{◌≡◌, take}
use Rattle.php_renumber.proofs.part.class_names.Given as goal

abbrev pub invariant-loop-one : goal.invariant-loop-one
invariant-loop-one l = l.copies ≡ take l.one-index l.all
