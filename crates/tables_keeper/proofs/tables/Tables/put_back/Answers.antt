use Rattle.std.proofs.Common.{◌≡◌, ◌≤◌, ◌<◌, length, arith, refl}
use Rattle.std.proofs.lemmas.List.{length-map}
use Rattle.tables_keeper.specs.declared.table.Row.{Row}
use Rattle.tables_keeper.specs.Tables.{tables_of, table_at}
use Rattle.tables_keeper.specs.Undo.{CanPutBack, with_row_back}
use Rattle.tables_keeper.proofs.TotalLemmas.{inserted_tables}
use Rattle.tables_keeper.proofs.ViewLemmas.{content}
use Rattle.tables_keeper.proofs.UndoLemmas.{content_is, change_contents}
use Rattle.tables_keeper.proofs.tables.Tables.put_back.Goals as goal

pub invariant_of-self : goal.invariant_of-self
invariant_of-self c =
    let views = c.self.inside.list.items in
    let can : CanPutBack c.args.place c.args.row c.args.id c.args.cells views = rw c.self.view_is c.requires in
    let within : c.args.place < length (tables_of views) = omega (arith, can.within, length-map views content) in
    let inside : c.args.row ≤ length (table_at c.args.place (tables_of views)).rows = rw (← content_is views c.args.place) can.there in
    let one : Row = record { id = c.args.id; cells = c.args.cells } in
    rw (c.put_back_into.ensures, change_contents c.args.place (with_row_back c.args.row c.args.id c.args.cells) views can.within)
    (inserted_tables (tables_of views) c.args.place c.args.row one (with_row_back c.args.row c.args.id c.args.cells (table_at c.args.place (tables_of views))) c.self.inside.rows c.self.inside.size c.size-size.result c.self.invariant within inside refl refl c.size-size.ensures can.count)
