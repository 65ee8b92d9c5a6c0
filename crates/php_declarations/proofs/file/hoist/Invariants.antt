use Rattle.php_declarations.proofs.Hoists.{Left}
use Rattle.php_declarations.proofs.file.hoist.Given as goal

abbrev pub invariant-loop-x : goal.invariant-loop-x
invariant-loop-x l = Left l.path l.initial.functions l.functions l.file l.x-index
