use Rattle.std.proofs.Common.{◌≡◌, take}
use Rattle.tables_keeper.specs.Rows.{with_id}
use Rattle.tables_keeper.proofs.row.copies_with_id.Given as goal

abbrev pub invariant-loop-column : goal.invariant-loop-column
invariant-loop-column l = l.copies.items ≡ with_id l.id (take l.column-index l.columns)
