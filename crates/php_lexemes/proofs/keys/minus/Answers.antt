use Rattle.php_lexemes.proofs.KeyLemmas.{minus_fits, minus_is}
use Rattle.php_lexemes.proofs.keys.minus.Goals as goal

pub overflow_sub-result : goal.overflow_sub-result
overflow_sub-result c = minus_fits c.args.value c.requires.above c.requires.below

pub returns : goal.returns
returns c = minus_is c.args.value c.requires.above c.requires.below
