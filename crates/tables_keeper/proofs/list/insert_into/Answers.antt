use Rattle.std.proofs.Common.{rules}
use Rattle.tables_keeper.proofs.ViewLemmas.{insert_view}
use Rattle.tables_keeper.proofs.list.insert_into.Goals as goal

pub returns-clause-ok : goal.returns-clause-ok
returns-clause-ok c =
    let views = c.args.list.now.items in
    let among = insert_view views c.count_below-place.result c.args.table in
    search (rules, among)
