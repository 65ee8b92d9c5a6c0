use Rattle.std.proofs.Common.{◌≡◌, ◌∙◌, ◌<◌, ◌^◌, ◌-◌, ◌+◌, min, ap, length, List, arith}
use Rattle.tables_keeper.specs.declared.cell.Column.{Column}
use Rattle.tables_keeper.specs.Rows.{row_size}
use Rattle.tables_keeper.specs.Tables.{tables_of, table_at, row_at, total_size}
use Rattle.tables_keeper.proofs.TotalLemmas.{replaced_tables}
use Rattle.std.proofs.lemmas.List.{length-map}
use Rattle.tables_keeper.proofs.ViewLemmas.{content}
use Rattle.tables_keeper.proofs.UndoOf.{undo_cells}
use Rattle.tables_keeper.proofs.tables.Tables.replace_cells.Goals as goal

pub invariant_of-self : goal.invariant_of-self
invariant_of-self c =
    let tables = tables_of c.self.inside.list.items in
    let within : c.args.place < length tables = rw (c.self.view_is, length-map c.args.self.now content) c.requires.place in
    let inside : c.args.row < length (table_at c.args.place tables).rows = rw c.self.view_is c.requires.row in
    let fits : total_size tables - row_size (row_at c.args.row (table_at c.args.place tables)).cells + row_size c.args.cells < 2 ^ 64 = rw c.self.view_is c.requires.fits in
    let small : c.self.inside.size < 2 ^ 64 = omega arith in
    let old : c.size.result ≡ min (row_size (row_at c.args.row (table_at c.args.place tables)).cells) (2 ^ 64 - 1) = c.size.ensures ∙ ap (λ (cells : List Column). min (row_size cells) (2 ^ 64 - 1)) c.replace_in-old.ensures.cells in
    rw c.replace_in-old.ensures.tables (replaced_tables tables c.args.place c.args.row c.args.cells c.self.inside.rows c.self.inside.size c.size.result c.size-size.result c.self.invariant within inside small old c.size-size.ensures fits)

pub returns-clause-undo : goal.returns-clause-undo
returns-clause-undo c =
    let views = c.self.inside.list.items in
    let within : c.args.place < length views = rw c.self.view_is c.requires.place in
    let inside : c.args.row < length (table_at c.args.place (tables_of views)).rows = rw c.self.view_is c.requires.row in
    let small : total_size (tables_of views) < 2 ^ 64 = omega (arith, c.self.invariant.sized) in
    rw (← c.self.view_is) (undo_cells c.args.place c.args.row c.replace_in-old.result c.args.cells views c.replace_in-old.new.list.items within c.replace_in-old.ensures.list inside c.replace_in-old.ensures.cells c.replace_in-old.ensures.held small)
