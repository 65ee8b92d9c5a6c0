use Rattle.php_declarations.proofs.Fitting.{written}
use Rattle.php_declarations.proofs.statics.first_value.Goals as goal

pub returns-in_ok-value-in-Some : goal.returns-in_ok-value-in-Some
returns-in_ok-value-in-Some c = written c.args.path.now c.args.constants.now c.args.written.now _ c.get.result.now c.in_ok-value-in-Some.value c.in-Some.is c.get.ensures c.in_ok-value-in-Some.ensures
