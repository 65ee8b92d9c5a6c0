use Rattle.tables_keeper.proofs.RowLemmas.{plain_without_id}
use Rattle.tables_keeper.proofs.tables.Tables.insert.Goals as goal

pub insert_next-requires-clause-plain : goal.insert_next-requires-clause-plain
insert_next-requires-clause-plain c = rw c.in_ok-cells.ensures (plain_without_id c.args.given.now)

pub insert_first-requires-clause-plain : goal.insert_first-requires-clause-plain
insert_first-requires-clause-plain c = rw c.in_ok-cells.ensures (plain_without_id c.args.given.now)
