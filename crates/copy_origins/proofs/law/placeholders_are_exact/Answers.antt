use Rattle.copy_origins.proofs.Accepted.{program_exact}
use Rattle.copy_origins.proofs.law.placeholders_are_exact.Goals as goal

pub returns : goal.returns
returns c = program_exact
