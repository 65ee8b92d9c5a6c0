use Rattle.std.proofs.Common.{◌≡◌, ◌∙◌, ◌<◌, Some, None, length, ap, refl, rules, arith}
use Rattle.std.specs.List.{insert}
use Rattle.std.proofs.lemmas.List.{length-map}
use Rattle.tables_keeper.specs.TableData.{TableData, with_top}
use Rattle.tables_keeper.specs.Tables.{tables_of, table_at, tables_before, table_place, new_table}
use Rattle.tables_keeper.proofs.NameLemmas.{tables_set, tables_insert, table_place_within}
use Rattle.tables_keeper.proofs.tables.Tables.set_top.Goals as goal

pub invariant_of-self : goal.invariant_of-self
invariant_of-self c =
    let tables = tables_of c.self.inside.list.items in
    let found : table_place c.args.table.now tables ≡ Some c.in-Some.place = search rules in
    let within = table_place_within c.args.table.now tables c.in-Some.place found in
    rw c.set_top_in.ensures (tables_set tables c.in-Some.place (with_top c.unsigned_abs-top.result (table_at c.in-Some.place tables)) c.self.inside.rows c.self.inside.size c.self.inside.rows c.self.inside.size c.self.invariant within refl refl refl)

pub invariant_of-self-in_ok-insert_into-in-None : goal.invariant_of-self-in_ok-insert_into-in-None
invariant_of-self-in_ok-insert_into-in-None c =
    let tables = tables_of c.self.inside.list.items in
    let absent : table_place c.args.table.now tables ≡ None = search rules in
    let new = with_top c.unsigned_abs-top.result (new_table c.args.table.now) in
    let is : tables_of c.insert_into.new.list.items ≡ insert tables (tables_before c.args.table.now tables) new = search rules in
    rw is (tables_insert tables new c.self.inside.rows c.self.inside.size c.self.inside.rows c.self.inside.size c.self.invariant absent (omega arith) (omega arith))
