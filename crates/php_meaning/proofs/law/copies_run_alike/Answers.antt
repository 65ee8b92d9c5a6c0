use Rattle.php_meaning.proofs.Copies.{traces_alike}
use Rattle.php_meaning.proofs.law.copies_run_alike.Goals as goal

pub returns : goal.returns
returns c = λ keeps original copy files i budget parts. traces_alike keeps original copy parts files i budget
