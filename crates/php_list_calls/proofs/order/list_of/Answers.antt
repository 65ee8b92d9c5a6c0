use Rattle.php_list_calls.specs.Items.{values_of}
use Rattle.php_list_calls.specs.Pairs.{lent_items}
use Rattle.php_list_calls.proofs.Steps.{listing-begins}
use Rattle.php_list_calls.proofs.order.list_of.Goals as goal

pub loop-pair-init : goal.loop-pair-init
loop-pair-init c = listing-begins c.new-list.result (values_of (lent_items c.args.pairs.now)) c.new-list.ensures.pairs c.new-list.ensures.next
