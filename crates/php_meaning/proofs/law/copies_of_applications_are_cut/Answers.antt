use Rattle.php_meaning.proofs.CopyOf.{copies_cut}
use Rattle.php_meaning.proofs.law.copies_of_applications_are_cut.Goals as goal

pub returns : goal.returns
returns c = copies_cut
