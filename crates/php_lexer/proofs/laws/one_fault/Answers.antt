use Rattle.php_lexer.proofs.TokenLaws.{fault_alone}
use Rattle.php_lexer.proofs.laws.one_fault.Goals as goal

pub returns : goal.returns
returns c = fault_alone
