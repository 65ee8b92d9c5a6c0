use Rattle.std.proofs.Common.{◌≡◌, ◌∙◌, ap, eqb, w64}
use Rattle.std.specs.List.{position}
use Rattle.std.specs.Int.RustNames.{unsigned_abs}
use Rattle.std.proofs.lemmas.Int.{to_z-of_z}
use Rattle.tables_keeper.specs.TableData.{TableView, row_place}
use Rattle.tables_keeper.proofs.TableLemmas.{row_place_is, if_given}
use Rattle.tables_keeper.proofs.table.Table.place_of.Goals as goal

pub returns-clause-place : goal.returns-clause-place
returns-clause-place c =
    let below = rw (to_z-of_z w64 c.args.id c.ranges.id) at c.if-id-lt0.false in
    let rows = c.deref.ensures.value ∙ ap (λ (view : TableView). view.content.rows) c.self.view_is in
    let counted : c.unsigned_abs.result ≡ unsigned_abs c.args.id = rw (to_z-of_z w64 c.args.id c.ranges.id) at c.unsigned_abs.ensures.value in
    let found : c.place_of.result ≡ position (λ row. eqb row.id (unsigned_abs c.args.id)) c.args.self.now.content.rows = rw (← rows, ← counted) c.place_of.ensures in
    row_place_is c.args.id c.args.self.now.content.rows c.place_of.result below found

pub returns-clause-given : goal.returns-clause-given
returns-clause-given c =
    let below = rw (to_z-of_z w64 c.args.id c.ranges.id) at c.if-id-lt0.false in
    let rows = c.deref.ensures.value in
    let counted : c.unsigned_abs.result ≡ unsigned_abs c.args.id = rw (to_z-of_z w64 c.args.id c.ranges.id) at c.unsigned_abs.ensures.value in
    let found : c.place_of.result ≡ position (λ row. eqb row.id (unsigned_abs c.args.id)) c.self.inside.rows.items = rw (← rows, ← counted) c.place_of.ensures in
    if_given c.args.id c.self.inside.top c.self.inside.rows.items c.place_of.result c.self.invariant (row_place_is c.args.id c.self.inside.rows.items c.place_of.result below found)
