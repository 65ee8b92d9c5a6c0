use Rattle.std.proofs.Common.{rules}
use Rattle.php_steps.proofs.Lists.{empty_list}
use Rattle.php_fixed.proofs.element.no_elements.Goals as goal

pub returns : goal.returns
returns c = search (rules, empty_list)
