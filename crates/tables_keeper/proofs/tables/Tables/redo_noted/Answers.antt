use Rattle.tables_keeper.proofs.UndoLemmas.{can_undo_grown, undone_grown, note_can, note_back, unnoted}
use Rattle.tables_keeper.proofs.tables.Tables.redo_noted.Goals as goal

pub returns-in_err-undo-clause-can : goal.returns-in_err-undo-clause-can
returns-in_err-undo-clause-can c = can_undo_grown c.args.log.now c.args.self.now c.redo_one.new.self c.requires.log c.in_err-undo.ensures.err

pub returns-in_err-undo-clause-back : goal.returns-in_err-undo-clause-back
returns-in_err-undo-clause-back c = (undone_grown c.args.log.now c.args.self.now c.redo_one.new.self c.requires.log c.in_err-undo.ensures.err).contents

pub returns-in_err-note-clause-can : goal.returns-in_err-note-clause-can
returns-in_err-note-clause-can c =
    let back = unnoted c.in_ok-undo.undo c.args.self.now c.redo_one.new.self c.in_ok-undo.ensures.undo in
    rw (c.in_err-note.ensures.same, c.in_err-note.ensures.err) (can_undo_grown c.args.log.now c.args.self.now _ c.requires.log back)

pub returns-in_err-note-clause-back : goal.returns-in_err-note-clause-back
returns-in_err-note-clause-back c =
    let back = unnoted c.in_ok-undo.undo c.args.self.now c.redo_one.new.self c.in_ok-undo.ensures.undo in
    rw (c.in_err-note.ensures.same, c.in_err-note.ensures.err) (undone_grown c.args.log.now c.args.self.now _ c.requires.log back).contents

pub returns-clause-can : goal.returns-clause-can
returns-clause-can c = rw (c.in_ok-note.ensures.noted, c.in_ok-note.ensures.ok) (note_can c.args.log.now c.in_ok-undo.undo c.args.self.now c.redo_one.new.self c.requires.log c.in_ok-undo.ensures.undo)

pub returns-clause-back : goal.returns-clause-back
returns-clause-back c = rw (c.in_ok-note.ensures.noted, c.in_ok-note.ensures.ok) (note_back c.args.log.now c.in_ok-undo.undo c.args.self.now c.redo_one.new.self c.requires.log c.in_ok-undo.ensures.undo)
