use Rattle.php_declarations.proofs.Values.{Left}
use Rattle.php_declarations.proofs.consts.add_constants.Given as goal

abbrev pub invariant-loop-constant : goal.invariant-loop-constant
invariant-loop-constant l = Left l.path l.initial.constants l.constants l.declared l.constant-index
