use Rattle.std.proofs.Common.{◌≡◌, take}
use Rattle.tables_keeper.specs.Rows.{merged}
use Rattle.tables_keeper.proofs.row.RowCells.merged.Given as goal

abbrev pub invariant-loop-column : goal.invariant-loop-column
invariant-loop-column l = l.row ≡ merged l.self (take l.column-index l.given)
