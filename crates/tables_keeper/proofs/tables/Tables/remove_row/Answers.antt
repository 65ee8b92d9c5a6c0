use Rattle.std.proofs.Common.{◌≡◌, ◌∙◌, ◌<◌, ◌^◌, ◌-◌, min, ap, refl, length, List, arith}
use Rattle.tables_keeper.specs.declared.cell.Column.{Column}
use Rattle.tables_keeper.specs.declared.undo.Undo.TheVariants.{Gone}
use Rattle.tables_keeper.specs.Rows.{row_size}
use Rattle.tables_keeper.specs.Tables.{tables_of, table_at, row_at, row_count, total_size}
use Rattle.tables_keeper.specs.Undo.{IsUndoOf}
use Rattle.tables_keeper.proofs.TotalLemmas.{removed_tables}
use Rattle.std.proofs.lemmas.List.{length-map}
use Rattle.tables_keeper.proofs.ViewLemmas.{content}
use Rattle.tables_keeper.proofs.UndoOf.{undo_gone}
use Rattle.tables_keeper.proofs.tables.Tables.remove_row.Goals as goal

pub invariant_of-self : goal.invariant_of-self
invariant_of-self c =
    let tables = tables_of c.self.inside.list.items in
    let within : c.args.place < length tables = rw (c.self.view_is, length-map c.args.self.now content) c.requires.place in
    let inside : c.args.row < length (table_at c.args.place tables).rows = rw c.self.view_is c.requires.row in
    let small : c.self.inside.size < 2 ^ 64 = omega arith in
    let old : c.size.result ≡ min (row_size (row_at c.args.row (table_at c.args.place tables)).cells) (2 ^ 64 - 1) = c.size.ensures ∙ ap (λ (cells : List Column). min (row_size cells) (2 ^ 64 - 1)) c.remove_from-old.ensures.cells in
    rw c.remove_from-old.ensures.tables (removed_tables tables c.args.place c.args.row c.self.inside.rows c.self.inside.size c.size.result c.self.invariant within inside small old)

pub returns-clause-undo : goal.returns-clause-undo
returns-clause-undo c =
    let views = c.self.inside.list.items in
    let within : c.args.place < length views = rw c.self.view_is c.requires.place in
    let inside : c.args.row < length (table_at c.args.place (tables_of views)).rows = rw c.self.view_is c.requires.row in
    let few : row_count (tables_of views) < 2 ^ 64 = omega (arith, c.self.invariant.counted) in
    let small : total_size (tables_of views) < 2 ^ 64 = omega (arith, c.self.invariant.sized) in
    rw (← c.self.view_is) (undo_gone c.args.place c.args.row _ c.remove_from-old.result views c.remove_from-old.new.list.items within c.remove_from-old.ensures.list inside refl c.remove_from-old.ensures.cells c.remove_from-old.ensures.room c.remove_from-old.ensures.held few small)
