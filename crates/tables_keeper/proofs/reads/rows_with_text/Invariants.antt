use Rattle.std.proofs.Common.{◌≡◌, take}
use Rattle.tables_keeper.specs.Tables.{rows_with_text}
use Rattle.tables_keeper.proofs.reads.rows_with_text.Given as goal

abbrev pub invariant-loop-place : goal.invariant-loop-place
invariant-loop-place l = l.list ≡ rows_with_text l.column l.text (take l.place l.table.content.rows)
