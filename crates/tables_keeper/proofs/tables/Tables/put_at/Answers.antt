use Rattle.std.proofs.Common.{◌≡◌, ◌∙◌, ◌<◌, Some, pos, length, ap, sym, rules, arith, slice_set}
use Rattle.tables_keeper.specs.TableData.{TableData, row_place}
use Rattle.tables_keeper.specs.Tables.{tables_of, table_at}
use Rattle.tables_keeper.proofs.TableLemmas.{put_found}
use Rattle.tables_keeper.proofs.ViewLemmas.{table_at_is}
use Rattle.tables_keeper.proofs.tables.Tables.put_at.Goals as goal

pub returns-in-Some-clause-ok : goal.returns-in-Some-clause-ok
returns-in-Some-clause-ok c =
    let views = c.self.inside.list.items in
    let tables = tables_of c.args.self.now in
    let within : c.args.place < length views = rw c.self.view_is c.requires.place in
    let at : table_at c.args.place tables ≡ c.index.result.now.content = rw (← c.self.view_is) (table_at_is views c.args.place c.index.result.now within c.index.ensures) in
    let there : row_place (pos c.args.id) c.index.result.now.content.rows ≡ Some c.in-Some.row = search rules in
    let found : row_place (pos c.args.id) (table_at c.args.place tables).rows ≡ Some c.in-Some.row = rw at there in
    c.replace_cells-cells.ensures.tables ∙ ap (λ (t : TableData). slice_set tables c.args.place t) (sym (put_found c.args.id c.in-Some.row c.args.cells (table_at c.args.place tables) found c.replace_cells-cells.ensures.held))
