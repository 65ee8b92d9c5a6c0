use Rattle.std.proofs.Common.{◌≡◌, take}
use Rattle.tables_keeper.specs.Rows.{without_id}
use Rattle.tables_keeper.proofs.row.copies_without_id.Given as goal

abbrev pub invariant-loop-column : goal.invariant-loop-column
invariant-loop-column l = l.copies.items ≡ without_id (take l.column-index l.columns)
