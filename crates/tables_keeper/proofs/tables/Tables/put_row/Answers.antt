use Rattle.std.proofs.Common.{◌≡◌, ◌≤◌, ◌<◌, length, arith, refl}
use Rattle.std.proofs.lemmas.List.{length-map}
use Rattle.std.proofs.lemmas.List.Edits.{length-insert}
use Rattle.tables_keeper.specs.declared.table.Row.{Row}
use Rattle.tables_keeper.specs.TableData.{rows_before, with_row_at, with_raised}
use Rattle.tables_keeper.specs.Tables.{tables_of, table_at}
use Rattle.tables_keeper.specs.Undo.{CanCount}
use Rattle.tables_keeper.proofs.TotalLemmas.{inserted_tables}
use Rattle.tables_keeper.proofs.ViewLemmas.{content}
use Rattle.tables_keeper.proofs.UndoOf.{undo_row, put_back_again}
use Rattle.tables_keeper.proofs.tables.Tables.put_row.Goals as goal

pub returns-clause-undo : goal.returns-clause-undo
returns-clause-undo c =
    let views = c.self.inside.list.items in
    let within : c.args.place < length views = rw c.self.view_is c.requires.place in
    let table = table_at c.args.place (tables_of views) in
    let one : Row = record { id = c.args.id; cells = c.args.cells } in
    let place = c.in_ok-row.ensures.row in
    let le = c.in_ok-row.ensures.within in
    let more = length-insert table.rows (rows_before c.args.id table.rows) one (omega (arith, place, le)) in
    rw (← c.self.view_is) (undo_row c.args.place c.in_ok-row.row table.top views c.put_into.new.list.items (with_row_at c.args.id c.args.cells (with_raised c.args.id table)) within c.put_into.ensures.room c.in_ok-row.ensures.ok (omega (arith, more, le)) (put_back_again c.args.id c.in_ok-row.row c.args.cells table place le) c.put_into.ensures.held)
