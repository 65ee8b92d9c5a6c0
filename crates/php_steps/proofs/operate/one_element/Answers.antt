use Rattle.std.proofs.Common.{rules}
use Rattle.php_steps.proofs.Lists.{one_list}
use Rattle.php_steps.proofs.operate.one_element.Goals as goal

pub returns : goal.returns
returns c = search (rules, one_list)
