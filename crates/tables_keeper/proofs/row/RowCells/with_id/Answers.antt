use Rattle.std.proofs.Common.{◌≡◌, rules, codes, None}
use Rattle.std.specs.List.{position}
use Rattle.tables_keeper.specs.Rows.{with_id, is_named}
use Rattle.tables_keeper.proofs.RowLemmas.{distinct_with_id}
use Rattle.tables_keeper.proofs.row.RowCells.with_id.Goals as goal

pub invariant_of-result : goal.invariant_of-result
invariant_of-result c =
    let whole : c.in_ok-columns.columns.items ≡ with_id c.args.id c.self.inside.columns.items = search rules in
    let plain : position (is_named (codes "id")) c.self.inside.columns.items ≡ None = search rules in
    rw whole (distinct_with_id c.args.id c.self.inside.columns.items c.self.invariant plain)
