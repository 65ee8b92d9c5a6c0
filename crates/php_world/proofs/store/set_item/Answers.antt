use Rattle.php_world.proofs.Stores.{cells_put}
use Rattle.php_world.proofs.store.set_item.Goals as goal

pub returns-then-cell-len : goal.returns-then-cell-len
returns-then-cell-len c = cells_put c.args.cells.now.items c.args.cell c.args.value
