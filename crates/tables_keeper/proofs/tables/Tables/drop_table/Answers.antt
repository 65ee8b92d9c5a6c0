use Rattle.std.proofs.Common.{◌≡◌, ◌∙◌, ◌<◌, ◌^◌, ◌-◌, min, ap, sym, length, List, arith}
use Rattle.std.proofs.lemmas.List.{length-map}
use Rattle.tables_keeper.specs.Rows.{row_size}
use Rattle.tables_keeper.specs.TableData.{TableData}
use Rattle.tables_keeper.specs.Tables.{tables_of, table_at, row_at}
use Rattle.tables_keeper.specs.Undo.{CanDropTable}
use Rattle.tables_keeper.proofs.Edits.{map_remove}
use Rattle.tables_keeper.proofs.TotalLemmas.{removed_table, row_counted, row_within}
use Rattle.tables_keeper.proofs.ViewLemmas.{content, table_at_is}
use Rattle.tables_keeper.proofs.UndoLemmas.{content_is}
use Rattle.tables_keeper.proofs.tables.Tables.drop_table.Goals as goal

pub overflow_sub-self : goal.overflow_sub-self
overflow_sub-self c =
    let views = c.self.inside.list.items in
    let can : CanDropTable c.args.place views = rw c.self.view_is c.requires in
    let single : length (table_at c.args.place (tables_of views)).rows ≡ 1 = rw (← content_is views c.args.place) can.single in
    row_counted (tables_of views) c.args.place 0 c.self.inside.rows c.self.inside.size c.self.invariant (omega (arith, can.within, length-map views content)) (omega arith)

pub overflow_sub-self-2 : goal.overflow_sub-self-2
overflow_sub-self-2 c =
    let views = c.self.inside.list.items in
    let can : CanDropTable c.args.place views = rw c.self.view_is c.requires in
    let single : length (table_at c.args.place (tables_of views)).rows ≡ 1 = rw (← content_is views c.args.place) can.single in
    let least = row_within (tables_of views) c.args.place 0 c.self.inside.rows c.self.inside.size c.self.invariant (omega (arith, can.within, length-map views content)) (omega arith) in
    let there = table_at_is views c.args.place c.remove-table.result can.within c.remove-table.ensures.value in
    omega (arith, least, ap (λ (t : TableData). row_size (row_at 0 t).cells) there, c.size_at.ensures)

pub invariant_of-self : goal.invariant_of-self
invariant_of-self c =
    let views = c.self.inside.list.items in
    let can : CanDropTable c.args.place views = rw c.self.view_is c.requires in
    let single : length (table_at c.args.place (tables_of views)).rows ≡ 1 = rw (← content_is views c.args.place) can.single in
    let within : c.args.place < length (tables_of views) = omega (arith, can.within, length-map views content) in
    let small : c.self.inside.size < 2 ^ 64 = omega arith in
    let there = table_at_is views c.args.place c.remove-table.result can.within c.remove-table.ensures.value in
    let old : c.size_at.result ≡ min (row_size (row_at 0 (table_at c.args.place (tables_of views))).cells) (2 ^ 64 - 1) = c.size_at.ensures ∙ ap (λ (t : TableData). min (row_size (row_at 0 t).cells) (2 ^ 64 - 1)) (sym there) in
    rw (c.remove-table.ensures.items, map_remove content views c.args.place) (removed_table (tables_of views) c.args.place c.self.inside.rows c.self.inside.size c.size_at.result c.self.invariant within single small old)
