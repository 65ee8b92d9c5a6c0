use Rattle.std.proofs.Common.{◌∙◌}
use Rattle.php_values.specs.Data.{data_of}
use Rattle.php_statement_steps.proofs.Going.{for-given}
use Rattle.php_statement_steps.proofs.resume.resume_stmt.Goals as goal

pub returns-in-ForList : goal.returns-in-ForList
returns-in-ForList c = λ t w k. c.in_ok-now-in-ForList.ensures (data_of c.args.value) t w k ∙ for-given _ c.in-ForList.more c.in-ForList.of c.args.value c.in-ForList.is t w _
