use Rattle.std.proofs.Common.{◌≡◌, take}
use Rattle.tables_keeper.specs.Tables.{tables_of}
use Rattle.tables_keeper.proofs.list.copied.Given as goal

abbrev pub invariant-loop-table : goal.invariant-loop-table
invariant-loop-table l = tables_of l.copies.items ≡ tables_of (take l.table-index l.list)
