use Rattle.removal_reports.specs.Fields.{told_removal}
use Rattle.removal_reports.proofs.reader.read_log_line.Goals as goal
use Rattle.removal_reports.proofs.Lines.{one_removal}
use Rattle.std.proofs.Common.{sym, ◌∙◌}

pub returns-in-Ok-clause-only : goal.returns-in-Ok-clause-only
returns-in-Ok-clause-only c r is = one_removal r (told_removal c.in-Some.told) c.args.line.now is c.in-Some.ensures ∙ sym c.in-Ok.ensures
