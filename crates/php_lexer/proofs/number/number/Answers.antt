use Rattle.std.proofs.Common.{rules, arith}
use Rattle.std.proofs.lemmas.Grind.{common_steps}
use Rattle.php_lexer.specs.Numbers.{number}
use Rattle.php_lexer.proofs.number.number.Goals as goal

pub returns-then-x-eq120-clause-value : goal.returns-then-x-eq120-clause-value
unfolding number
returns-then-x-eq120-clause-value c = first_of (search rules, grind (arith, common_steps))

pub returns-then-x-eq98-clause-value : goal.returns-then-x-eq98-clause-value
unfolding number
returns-then-x-eq98-clause-value c = first_of (search rules, grind (arith, common_steps))

pub returns-clause-value : goal.returns-clause-value
unfolding number
returns-clause-value c = first_of (search rules, grind (arith, common_steps))
