use Rattle.std.proofs.Common.{arith, ◌<◌, length}
use Rattle.tables_keeper.specs.TableData.{without_row}
use Rattle.tables_keeper.proofs.ViewLemmas.{set_view}
use Rattle.tables_keeper.proofs.list.remove_from.Goals as goal

pub returns-clause-tables : goal.returns-clause-tables
returns-clause-tables c =
    let views = c.args.list.now.items in
    let within : c.args.place < length views = omega arith in
    set_view (without_row c.args.row) views c.args.place c.index_mut-table.result.now c.remove.new.self within c.index_mut-table.ensures.value c.remove.ensures.content
