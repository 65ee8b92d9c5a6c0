use Rattle.std.proofs.Common.{arith, refl}
use Rattle.php_values.specs.declared.value.Value.TheVariants.{Null}
use Rattle.php_world.specs.Places.{write_at}
use Rattle.php_world.specs.View.{path_of, change_of}
use Rattle.php_world.proofs.Items.{data-Null}
use Rattle.php_world.proofs.Stores.{cell_made, past_made}
use Rattle.php_world.proofs.store.write_item.Goals as goal

pub returns-then-cell-len : goal.returns-then-cell-len
returns-then-cell-len c =
    let a = c.len.ensures in let b = c.if-cell-len.true in
    cell_made c.write_value.result c.args.cells.now.items _ c.args.cell (write_at (path_of c.args.path.now) (change_of c.args.change)) c.index_mut.result.now c.write_value.new.old c.index_mut.result.now (omega arith) c.index_mut.ensures.value refl c.write_value.ensures

pub returns-else-cell-len : goal.returns-else-cell-len
returns-else-cell-len c =
    let a = c.len.ensures in let b = c.if-cell-len.false in
    past_made c.write_value-else-cell-len.result c.args.cells.now.items c.args.cell (write_at (path_of c.args.path.now) (change_of c.args.change)) Null c.write_value-else-cell-len.new.old (omega arith) data-Null c.write_value-else-cell-len.ensures
