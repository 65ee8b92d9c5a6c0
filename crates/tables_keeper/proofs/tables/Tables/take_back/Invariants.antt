use Rattle.std.proofs.Common.{◌≡◌, length}
use Rattle.tables_keeper.specs.Undo.{CanUndo, undone}
use Rattle.tables_keeper.proofs.tables.Tables.take_back.Given as goal

abbrev pub invariant-loop-undo : goal.invariant-loop-undo
invariant-loop-undo l = CanUndo l.left l.self × (undone l.left l.self ≡ undone l.fn.log l.fn.self)

abbrev pub decreases-loop-undo : goal.decreases-loop-undo
decreases-loop-undo l = length l.left
