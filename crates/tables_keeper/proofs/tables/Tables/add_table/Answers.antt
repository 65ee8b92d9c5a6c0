use Rattle.std.proofs.Common.{◌≡◌, ◌∙◌, None, ap, length, arith}
use Rattle.std.specs.List.{insert}
use Rattle.tables_keeper.specs.TableData.{TableData, with_put}
use Rattle.tables_keeper.specs.Tables.{tables_of, tables_before, table_place, new_table}
use Rattle.tables_keeper.specs.Undo.{CanCount}
use Rattle.tables_keeper.proofs.TotalLemmas.{first_tables}
use Rattle.tables_keeper.proofs.UndoOf.{undo_table}
use Rattle.tables_keeper.proofs.tables.Tables.add_table.Goals as goal

pub invariant_of-self-2 : goal.invariant_of-self-2
invariant_of-self-2 c =
    let tables = tables_of c.self.inside.list.items in
    let can : CanCount c.args.cells tables = rw c.self.view_is c.requires.room in
    let absent : table_place c.args.name tables ≡ None = rw c.self.view_is c.requires.absent in
    let new : tables_of c.insert_into.new.list.items ≡ insert tables (tables_before c.args.name tables) (with_put c.args.id c.args.cells (new_table c.args.name)) =
    c.in_ok-place.ensures.ok ∙ ap (λ (t : TableData). insert tables (tables_before t.name tables) t) c.in_ok-table.ensures in
    rw new (first_tables tables c.args.name c.args.id c.args.cells c.self.inside.rows c.self.inside.size c.size-size.result c.self.invariant absent c.size-size.ensures can)

pub returns-clause-undo : goal.returns-clause-undo
returns-clause-undo c =
    rw (← c.self.view_is) (undo_table c.in_ok-place.place c.self.inside.list.items c.insert_into.new.list.items c.in_ok-table.table (omega (arith, c.in_ok-place.ensures.within)) c.in_ok-place.ensures.list (ap (λ (t : TableData). length t.rows) c.in_ok-table.ensures))
