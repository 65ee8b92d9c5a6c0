use Rattle.std.proofs.Common.{◌≡◌, rules}
use Rattle.tables_keeper.specs.Rows.{without_id}
use Rattle.tables_keeper.proofs.RowLemmas.{distinct_without_id}
use Rattle.tables_keeper.proofs.row.RowCells.without_id.Goals as goal

pub invariant_of-result : goal.invariant_of-result
invariant_of-result c =
    let whole : c.in_ok-columns.columns.items ≡ without_id c.self.inside.columns.items = search rules in
    rw whole (distinct_without_id c.self.inside.columns.items c.self.invariant)
