use Rattle.std.proofs.Common.{◌≡◌, take, map}
use Rattle.tables_keeper.specs.TableData.{shown}
use Rattle.tables_keeper.proofs.reads.all_rows.Given as goal

abbrev pub invariant-loop-place : goal.invariant-loop-place
invariant-loop-place l = l.list ≡ map shown (take l.place l.table.content.rows)
