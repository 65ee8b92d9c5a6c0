use Rattle.app_files.proofs.Sorting.{one_order}
use Rattle.app_files.proofs.order.one_order.Goals as goal

pub returns : goal.returns
returns c = one_order
