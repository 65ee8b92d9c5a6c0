use Rattle.std.proofs.Common.{rules, arith, ◌<◌, length}
use Rattle.tables_keeper.specs.TableData.{with_new_row}
use Rattle.tables_keeper.proofs.ViewLemmas.{set_view, keep_view}
use Rattle.tables_keeper.proofs.list.push_into.Goals as goal

pub returns-in_err-id-clause-err : goal.returns-in_err-id-clause-err
returns-in_err-id-clause-err c =
    let views = c.args.list.now.items in
    let within : c.args.place < length views = omega arith in
    let same = keep_view views c.args.place c.index_mut-table.result.now c.push.new.self within c.index_mut-table.ensures.value c.in_err-id.ensures.err in
    search (rules, same)

pub returns-clause-ok : goal.returns-clause-ok
returns-clause-ok c =
    let views = c.args.list.now.items in
    let within : c.args.place < length views = omega arith in
    set_view (with_new_row c.args.cells) views c.args.place c.index_mut-table.result.now c.push.new.self within c.index_mut-table.ensures.value c.in_ok-id.ensures.ok
