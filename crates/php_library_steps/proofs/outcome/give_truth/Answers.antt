use Rattle.std.proofs.Common.{ap}
use Rattle.php_meaning.specs.Course.{give}
use Rattle.php_library_steps.proofs.Truths.{data-Bool}
use Rattle.php_library_steps.proofs.outcome.give_truth.Goals as goal

pub returns : goal.returns
returns c = λ t. ap give (data-Bool c.args.value)
