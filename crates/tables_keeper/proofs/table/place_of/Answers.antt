use Rattle.std.proofs.Common.{sym, ◌∙◌, ap, arith}
use Rattle.std.proofs.lemmas.List.{get_or_default}
use Rattle.tables_keeper.specs.declared.table.Row.{Row}
use Rattle.tables_keeper.specs.TableData.{no_row}
use Rattle.tables_keeper.proofs.TableLemmas.{found_at, missing_at}
use Rattle.tables_keeper.proofs.table.place_of.Goals.{else-place-rows-via-then-place-rows+else-rows-place, else-place-rows-via-else-place-rows}
use Rattle.tables_keeper.proofs.table.place_of.Goals as goal

pub returns-then-rows-place : goal.returns-then-rows-place
returns-then-rows-place c =
    let rows = c.args.rows.now in
    let place = c.count_below-place.result in
    let same = get_or_default rows place no_row c.index-rows-place.result c.if-place-rows.true in
    sym (found_at rows c.args.id place c.count_below-place.ensures.place c.if-place-rows.true (ap (λ (row : Row). row.id) same ∙ c.if-rows-place.true))

pub returns-else-place-rows : goal.returns-else-place-rows
returns-else-place-rows c =
    let rows = c.args.rows.now in
    let place = c.count_below-place.result in
    sym (missing_at rows c.args.id place c.requires c.count_below-place.ensures.place
    (λ within. elim c.else-place-rows.branch [
      | else-place-rows-via-then-place-rows+else-rows-place w ↦
          let same = get_or_default rows place no_row w.index-rows-place.result within in
          λ e. w.if-rows-place.false (ap (λ (row : Row). row.id) (sym same) ∙ e)
      | else-place-rows-via-else-place-rows w ↦ absurd (omega arith)
    ]))
