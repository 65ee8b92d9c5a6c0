use Rattle.php_link.proofs.Numbering.{numbering}
use Rattle.php_link.proofs.law.a_numbering_exists.Goals as goal

pub returns : goal.returns
returns c = numbering
