use Rattle.std.proofs.Common.{◌≡◌, ◌∙◌, ◌+◌, ◌<◌, IsTrue, length, ap, sym, arith}
use Rattle.std.proofs.lemmas.List.{length_push}
use Rattle.tables_keeper.specs.TableData.{TableData, with_new_row}
use Rattle.tables_keeper.specs.Tables.{tables_of, table_at, fits_one_more}
use Rattle.tables_keeper.proofs.TotalLemmas.{pushed_tables}
use Rattle.std.proofs.lemmas.List.{length-map}
use Rattle.tables_keeper.proofs.ViewLemmas.{content, table_at_is}
use Rattle.tables_keeper.proofs.UndoOf.{undo_row, pushed_back}
use Rattle.tables_keeper.proofs.tables.Tables.push_row.Goals as goal

pub invariant_of-self : goal.invariant_of-self
invariant_of-self c = rw c.in_err-push_into.ensures.err c.self.invariant

pub invariant_of-self-2 : goal.invariant_of-self-2
invariant_of-self-2 c =
    let views = c.self.inside.list.items in
    let within : c.args.place < length (tables_of views) = rw (c.self.view_is, length-map c.args.self.now content) c.requires.place in
    let fits : IsTrue (fits_one_more (tables_of views) c.args.cells) = rw c.self.view_is c.requires.room in
    rw c.in_ok-push_into.ensures.ok (pushed_tables (tables_of views) c.args.place c.args.cells c.self.inside.rows c.self.inside.size c.size-size.result c.self.invariant within c.size-size.ensures fits)

pub returns-clause-undo : goal.returns-clause-undo
returns-clause-undo c =
    let views = c.self.inside.list.items in
    let within : c.args.place < length views = rw c.self.view_is c.requires.place in
    let table = table_at c.args.place (tables_of views) in
    let at = table_at_is views c.args.place c.index.result.now within c.index.ensures in
    let row : length c.rows-row.result.now ≡ length table.rows = ap length c.rows-row.ensures ∙ ap (λ (t : TableData). length t.rows) (sym at) in
    let more = length_push table.rows (record { id = table.top + 1; cells = c.args.cells }) in
    rw (row, ← c.self.view_is) (undo_row c.args.place (length table.rows) table.top views c.push_into.new.list.items (with_new_row c.args.cells table) within c.push_into.ensures.room c.in_ok-push_into.ensures.ok (omega (arith, more)) (pushed_back c.args.cells table) c.push_into.ensures.held)
