use Rattle.php_lexer.proofs.UntilLemmas.{until_from, until_none}
use Rattle.php_lexer.proofs.until.skip.Goals as goal

pub returns-in-Some-clause-value : goal.returns-in-Some-clause-value
returns-in-Some-clause-value c = until_from c.args.stop c.args.z.now c.in-Some.at c.in-Some.ensures

pub returns-in-None-clause-value : goal.returns-in-None-clause-value
returns-in-None-clause-value c = until_none c.args.stop c.args.z.now c.in-None.ensures
