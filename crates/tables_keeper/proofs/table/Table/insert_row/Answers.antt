use Rattle.std.proofs.Common.{◌≡◌, ap, eqb, rules, arith, None}
use Rattle.std.specs.List.{position, insert}
use Rattle.tables_keeper.specs.TableData.{TableView, rows_before, IsGiven, IsTable}
use Rattle.tables_keeper.specs.declared.table.Row.{Row}
use Rattle.tables_keeper.proofs.TableLemmas.{table_insert}
use Rattle.tables_keeper.proofs.table.Table.insert_row.Goals as goal

pub insert-requires : goal.insert-requires
insert-requires c = omega (arith, c.count_below-place.ensures.within, c.deref.ensures.len)

pub invariant_of-self : goal.invariant_of-self
invariant_of-self c =
    let row : Row = record { id = c.args.id; cells = c.args.cells } in
    let old = c.self.inside.rows.items in
    let given : IsGiven c.self.inside.top row = rw (ap (λ (view : TableView). view.content.top) c.self.view_is) c.requires.given in
    let absent : position (λ (r : Row). eqb r.id c.args.id) old ≡ None = rw (ap (λ (view : TableView). view.content.rows) c.self.view_is) c.requires.absent in
    let items : c.insert.new.self.items ≡ insert old (rows_before c.args.id old) row = search rules in
    let table : IsTable c.self.inside.top (insert old (rows_before c.args.id old) row) = table_insert c.self.inside.top old row c.self.invariant given absent in
    rw items table
