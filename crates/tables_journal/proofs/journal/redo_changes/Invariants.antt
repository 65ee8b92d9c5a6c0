use Rattle.std.proofs.Common.{◌≡◌}
use Rattle.tables_keeper.specs.Tables.{tables_of, all_redone}
use Rattle.tables_journal.proofs.journal.redo_changes.Given as goal

abbrev pub invariant-loop-change : goal.invariant-loop-change
invariant-loop-change l = tables_of l.tables ≡ all_redone l.yielded (tables_of l.fn.tables)
