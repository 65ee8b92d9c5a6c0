use Rattle.std.proofs.Common.{◌≡◌, take, min, ◌-◌, ◌^◌}
use Rattle.tables_keeper.specs.Rows.{row_size}
use Rattle.tables_keeper.proofs.row.RowCells.size.Given as goal

abbrev pub invariant-loop-column : goal.invariant-loop-column
invariant-loop-column l = l.size ≡ min (row_size (take l.column-index l.self)) (2 ^ 64 - 1)
