use Rattle.std.proofs.Common.{◌≡◌, ◌<◌, ap, sym, subst, length, None, codes}
use Rattle.std.specs.List.{position}
use Rattle.tables_keeper.specs.declared.table.Row.{Row}
use Rattle.tables_keeper.specs.Rows.{is_named}
use Rattle.tables_keeper.specs.TableData.{TableView}
use Rattle.tables_keeper.proofs.RowLemmas.{plain_merged}
use Rattle.tables_keeper.proofs.table.Table.merged.Goals as goal

pub returns-clause-plain : goal.returns-clause-plain
returns-clause-plain c =
    let within : c.args.place < length c.self.inside.rows.items = rw (ap (λ (view : TableView). view.content.rows) c.self.view_is) c.requires in
    let given = c.self.invariant.given c.args.place c.index.result.now within in
    let none : position (is_named (codes "id")) c.index.result.now.cells ≡ None = subst (λ (r : Row). position (is_named (codes "id")) r.cells ≡ None) (sym c.index.ensures) given.plain in
    rw c.in_ok-merged.ensures (plain_merged c.index.result.now.cells c.args.given.now none)
