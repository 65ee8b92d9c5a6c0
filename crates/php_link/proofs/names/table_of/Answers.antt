use Rattle.php_state.specs.Linked.{text_of_name}
use Rattle.php_link.proofs.Texts.{not_before}
use Rattle.php_link.proofs.names.table_of.Goals as goal

pub add-requires : goal.add-requires
add-requires c = not_before text_of_name c.args.list.now c.loop-name.name-index c.name-item.result c.as_slice.result.now c.loop-name.table c.requires c.loop-name-test.true c.name-item.is c.loop-name.invariant c.as_slice.ensures
