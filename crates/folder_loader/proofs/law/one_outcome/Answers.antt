use Rattle.folder_loader.proofs.OneOutcome.{one_outcome}
use Rattle.folder_loader.proofs.law.one_outcome.Goals as goal

pub returns : goal.returns
returns c = one_outcome c.args.setting
