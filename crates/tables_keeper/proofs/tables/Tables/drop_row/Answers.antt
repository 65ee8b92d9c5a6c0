use Rattle.std.proofs.Common.{◌≡◌, ◌∙◌, ◌<◌, ◌^◌, ◌-◌, min, ap, sym, length, List, arith}
use Rattle.std.proofs.lemmas.List.{length-map}
use Rattle.tables_keeper.specs.declared.cell.Column.{Column}
use Rattle.tables_keeper.specs.Rows.{row_size}
use Rattle.tables_keeper.specs.TableData.{TableData}
use Rattle.tables_keeper.specs.Tables.{tables_of, table_at, row_at}
use Rattle.tables_keeper.specs.Undo.{CanDropRow, without_put}
use Rattle.tables_keeper.proofs.TotalLemmas.{dropped_tables, row_counted, row_within}
use Rattle.tables_keeper.proofs.ViewLemmas.{content}
use Rattle.tables_keeper.proofs.UndoLemmas.{content_is, change_contents}
use Rattle.tables_keeper.proofs.tables.Tables.drop_row.Goals as goal

pub overflow_sub-self : goal.overflow_sub-self
overflow_sub-self c =
    let views = c.self.inside.list.items in
    let can : CanDropRow c.args.place c.args.row c.args.top views = rw c.self.view_is c.requires in
    let inside : c.args.row < length (table_at c.args.place (tables_of views)).rows = rw (← content_is views c.args.place) can.there in
    row_counted (tables_of views) c.args.place c.args.row c.self.inside.rows c.self.inside.size c.self.invariant (omega (arith, can.within, length-map views content)) inside

pub overflow_sub-self-2 : goal.overflow_sub-self-2
overflow_sub-self-2 c =
    let views = c.self.inside.list.items in
    let can : CanDropRow c.args.place c.args.row c.args.top views = rw c.self.view_is c.requires in
    let inside : c.args.row < length (table_at c.args.place (tables_of views)).rows = rw (← content_is views c.args.place) can.there in
    let least = row_within (tables_of views) c.args.place c.args.row c.self.inside.rows c.self.inside.size c.self.invariant (omega (arith, can.within, length-map views content)) inside in
    let same = ap row_size c.drop_from-old.ensures.cells ∙ ap (λ (t : TableData). row_size (row_at c.args.row t).cells) (content_is views c.args.place) in
    omega (arith, least, same, c.size.ensures)

pub invariant_of-self : goal.invariant_of-self
invariant_of-self c =
    let views = c.self.inside.list.items in
    let can : CanDropRow c.args.place c.args.row c.args.top views = rw c.self.view_is c.requires in
    let inside : c.args.row < length (table_at c.args.place (tables_of views)).rows = rw (← content_is views c.args.place) can.there in
    let within : c.args.place < length (tables_of views) = omega (arith, can.within, length-map views content) in
    let small : c.self.inside.size < 2 ^ 64 = omega arith in
    let same = ap row_size c.drop_from-old.ensures.cells ∙ ap (λ (t : TableData). row_size (row_at c.args.row t).cells) (content_is views c.args.place) in
    let old : c.size.result ≡ min (row_size (row_at c.args.row (table_at c.args.place (tables_of views))).cells) (2 ^ 64 - 1) = c.size.ensures ∙ ap (λ n. min n (2 ^ 64 - 1)) same in
    rw (c.drop_from-old.ensures.list, change_contents c.args.place (without_put c.args.row c.args.top) views can.within) (dropped_tables (tables_of views) c.args.place c.args.row c.args.top c.self.inside.rows c.self.inside.size c.size.result c.self.invariant within inside small old)
