use Rattle.copy_laws.proofs.Accepted.{entries_once}
use Rattle.copy_laws.proofs.law.entries_stand_once.Goals as goal

pub returns : goal.returns
returns c = entries_once
