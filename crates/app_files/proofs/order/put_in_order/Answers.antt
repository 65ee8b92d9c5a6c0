use Rattle.app_files.proofs.Sorting.{in_order}
use Rattle.app_files.proofs.order.put_in_order.Goals as goal

pub returns : goal.returns
returns c = in_order c.args.files.now.items _ c.requires c.sort_unstable.ensures.permutation c.sort_unstable.ensures.sorted
