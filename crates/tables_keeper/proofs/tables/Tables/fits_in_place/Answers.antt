use Rattle.std.proofs.Common.{◌≡◌, ◌<◌, ◌^◌, ◌-◌, ◌∙◌, ap, sym, min, length, arith, true, rules}
use Rattle.tables_keeper.specs.Rows.{row_size}
use Rattle.tables_keeper.specs.Tables.{tables_of, table_at, row_at, row_fits}
use Rattle.tables_keeper.proofs.TotalLemmas.{in_place_is}
use Rattle.std.proofs.lemmas.List.{length-map}
use Rattle.tables_keeper.proofs.ViewLemmas.{content, table_at_is}
use Rattle.tables_keeper.specs.TableData.{TableData}
use Rattle.tables_keeper.proofs.tables.Tables.fits_in_place.Goals as goal

pub returns-then-row_fits : goal.returns-then-row_fits
returns-then-row_fits c =
    let views = c.self.inside.list.items in
    let first : c.args.place < length views = rw c.self.view_is c.requires.place in
    let tables = tables_of c.self.inside.list.items in
    let within : c.args.place < length tables = rw (c.self.view_is, length-map c.args.self.now content) c.requires.place in
    let inside : c.args.row < length (table_at c.args.place tables).rows = rw c.self.view_is c.requires.row in
    let small : c.self.inside.size < 2 ^ 64 = omega arith in
    let old : c.size_at-old.result ≡ min (row_size (row_at c.args.row (table_at c.args.place tables)).cells) (2 ^ 64 - 1) =
    c.size_at-old.ensures ∙ ap (λ (t : TableData). min (row_size (row_at c.args.row t).cells) (2 ^ 64 - 1)) (sym (table_at_is views c.args.place c.index.result.now first c.index.ensures)) in
    let fits : row_fits c.args.new.now ≡ true = search rules in
    let e = in_place_is tables c.args.place c.args.row c.args.new.now c.self.inside.rows c.self.inside.size c.size_at-old.result c.size.result c.self.invariant within inside small old c.size.ensures fits in
    rw (c.saturating_add.ensures, c.saturating_sub.ensures) (rw c.self.view_is at e)
