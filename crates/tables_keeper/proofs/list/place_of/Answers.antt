use Rattle.std.proofs.Common.{◌≡◌, sym, rules, true, false, get_or, arith, subst}
use Rattle.std.proofs.lemmas.List.{get_or_read}
use Rattle.tables_keeper.specs.TableData.{TableView}
use Rattle.tables_keeper.proofs.NameLemmas.{has_name, table_found, table_missing, empty_view}
use Rattle.tables_keeper.proofs.list.place_of.Goals.{else-place-list-via-then-place-list+else-eq, else-place-list-via-else-place-list}
use Rattle.tables_keeper.proofs.list.place_of.Goals as goal

pub returns-then-eq : goal.returns-then-eq
returns-then-eq c =
    let place = c.count_below-place.result in
    let d = c.index-list-place.result in
    let here : has_name c.args.name.now (get_or c.args.list.now place d) ≡ true = search rules in
    sym (table_found c.args.name.now c.args.list.now place d c.count_below-place.ensures.place c.if-place-list.true here)

pub returns-else-place-list : goal.returns-else-place-list
returns-else-place-list c =
    let place = c.count_below-place.result in
    sym (table_missing c.args.name.now c.args.list.now place empty_view c.requires c.count_below-place.ensures.place
    (λ within. elim c.else-place-list.branch [
      | else-place-list-via-then-place-list+else-eq w ↦
          let name = c.args.name.now in
          let same = get_or_read c.args.list.now place w.index-list-place.result within w.index-list-place.is empty_view in
          let differs : has_name name w.index-list-place.result ≡ false = search rules in
          subst (λ (v : TableView). has_name name v ≡ false) same differs
      | else-place-list-via-else-place-list w ↦ absurd (omega arith)
    ]))
