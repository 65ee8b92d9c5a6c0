use Rattle.std.proofs.Common.{arith, refl}
use Rattle.php_values.specs.declared.value.Value.TheVariants.{Null}
use Rattle.php_world.specs.Places.{unset_at}
use Rattle.php_world.specs.View.{path_of}
use Rattle.php_world.proofs.Items.{data-Null}
use Rattle.php_world.proofs.Stores.{cell_made, past_made}
use Rattle.php_world.proofs.store.unset_item.Goals as goal

pub returns-then-cell-len : goal.returns-then-cell-len
returns-then-cell-len c =
    let a = c.len.ensures in let b = c.if-cell-len.true in
    cell_made c.unset_value.result c.args.cells.now.items _ c.args.cell (unset_at (path_of c.args.path.now)) c.index_mut.result.now c.unset_value.new.old c.index_mut.result.now (omega arith) c.index_mut.ensures.value refl c.unset_value.ensures

pub returns-else-cell-len : goal.returns-else-cell-len
returns-else-cell-len c =
    let a = c.len.ensures in let b = c.if-cell-len.false in
    past_made c.unset_value-else-cell-len.result c.args.cells.now.items c.args.cell (unset_at (path_of c.args.path.now)) Null c.unset_value-else-cell-len.new.old (omega arith) data-Null c.unset_value-else-cell-len.ensures
