use Rattle.std.proofs.Common.{arith, ◌<◌, length}
use Rattle.tables_keeper.specs.TableData.{with_cells}
use Rattle.tables_keeper.proofs.ViewLemmas.{set_view}
use Rattle.tables_keeper.proofs.list.replace_in.Goals as goal

pub returns-clause-tables : goal.returns-clause-tables
returns-clause-tables c =
    let views = c.args.list.now.items in
    let within : c.args.place < length views = omega arith in
    set_view (with_cells c.args.row c.args.cells) views c.args.place c.index_mut-table.result.now c.replace.new.self within c.index_mut-table.ensures.value c.replace.ensures.content
