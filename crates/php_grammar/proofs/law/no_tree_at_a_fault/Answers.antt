use Rattle.php_grammar.proofs.Single.{no_tree}
use Rattle.php_grammar.proofs.law.no_tree_at_a_fault.Goals as goal

pub returns : goal.returns
returns c = λ ts m tree k i. no_tree ts m c.args.fault tree k i
