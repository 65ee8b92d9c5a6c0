use Rattle.std.proofs.Common.{nat_lt, sym, rules, of_calls}
use Rattle.std.proofs.lemmas.Fn.{always_returns_same}
use Rattle.tables_keeper.specs.declared.table.Row.{Row}
use Rattle.std.proofs.lemmas.List.Sorted.{IsPartitionedBy-ltb}
use Rattle.tables_keeper.specs.TableData.{no_row}
use Rattle.tables_keeper.proofs.TableLemmas.{in_order, prefix_len_at}
use Rattle.tables_keeper.proofs.table.count_below.Goals as goal

pub returns-clause-place : goal.returns-clause-place
returns-clause-place c =
    let sorted = IsPartitionedBy-ltb (λ (row : Row). row.id) c.args.rows.now c.args.id (in_order c.args.rows.now c.requires) in
    let point = c.partition_point.ensures.partitioned (λ row. nat_lt row.id c.args.id) (always_returns_same _ _ _ (λ a r f k. search (rules, of_calls))) sorted in
    sym (prefix_len_at (λ (row : Row). nat_lt row.id c.args.id) c.args.rows.now c.partition_point.result no_row c.partition_point.ensures.bound point)
