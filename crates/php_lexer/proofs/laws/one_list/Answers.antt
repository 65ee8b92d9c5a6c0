use Rattle.php_lexer.proofs.TokenLaws as laws
use Rattle.php_lexer.proofs.laws.one_list.Goals as goal

pub returns : goal.returns
returns c = laws.one_list
