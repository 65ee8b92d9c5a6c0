use Rattle.std.proofs.Common.{◌≡◌, take}
use Rattle.tables_keeper.specs.Tables.{tables_of, all_redone}
use Rattle.tables_keeper.specs.Undo.{CanUndo, undone}
use Rattle.tables_keeper.proofs.tables.Tables.redo_all.Given as goal

abbrev pub invariant-loop-change : goal.invariant-loop-change
invariant-loop-change l = record {
  can : CanUndo l.log l.self;
  back : tables_of (undone l.log l.self) ≡ tables_of l.fn.self;
  done : tables_of l.self ≡ all_redone (take l.change-index l.changes) (tables_of l.fn.self);
}
