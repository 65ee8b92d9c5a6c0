use Rattle.std.proofs.Common.{arith, ◌<◌, length}
use Rattle.tables_keeper.specs.TableData.{with_top}
use Rattle.tables_keeper.proofs.ViewLemmas.{set_view}
use Rattle.tables_keeper.proofs.list.set_top_in.Goals as goal

pub returns : goal.returns
returns c =
    let views = c.args.list.now.items in
    let within : c.args.place < length views = omega arith in
    set_view (with_top c.args.top) views c.args.place c.index_mut-table.result.now c.set_top.new.self within c.index_mut-table.ensures.value c.set_top.ensures.content
