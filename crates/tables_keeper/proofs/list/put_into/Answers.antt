use Rattle.std.proofs.Common.{rules, arith, ◌<◌, length}
use Rattle.tables_keeper.specs.TableData.{TableData, with_row_at, with_raised}
use Rattle.tables_keeper.proofs.ViewLemmas.{set_view, keep_view}
use Rattle.tables_keeper.proofs.list.put_into.Goals as goal

pub returns-in_err-row-clause-err : goal.returns-in_err-row-clause-err
returns-in_err-row-clause-err c =
    let views = c.args.list.now.items in
    let within : c.args.place < length views = omega arith in
    let same = keep_view views c.args.place c.index_mut-table.result.now c.put_row.new.self within c.index_mut-table.ensures.value c.in_err-row.ensures.err in
    search (rules, same)

pub returns-clause-ok : goal.returns-clause-ok
returns-clause-ok c =
    let views = c.args.list.now.items in
    let within : c.args.place < length views = omega arith in
    set_view (λ (t : TableData). with_row_at c.args.id c.args.cells (with_raised c.args.id t)) views c.args.place c.index_mut-table.result.now c.put_row.new.self within c.index_mut-table.ensures.value c.in_ok-row.ensures.ok
