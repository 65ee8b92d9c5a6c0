use Rattle.std.proofs.Common.{◌∙◌}
use Rattle.php_tables.proofs.Found.{found_first}
use Rattle.php_tables.proofs.functions.Functions.get.Goals as goal

pub returns : goal.returns
returns c = c.copied.ensures ∙ (c.get.ensures ∙ found_first c.args.name.now c.args.self.now.table c.args.self.now.named)
