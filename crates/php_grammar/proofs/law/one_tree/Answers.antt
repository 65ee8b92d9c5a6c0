use Rattle.php_grammar.proofs.Single.{one_tree_is}
use Rattle.php_grammar.proofs.law.one_tree.Goals as goal

pub returns : goal.returns
returns c = one_tree_is
