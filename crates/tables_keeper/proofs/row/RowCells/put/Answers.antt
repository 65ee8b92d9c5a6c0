use Rattle.std.proofs.Common.{◌≡◌, Some, None, rules}
use Rattle.std.specs.List.{position}
use Rattle.tables_keeper.specs.Rows.{is_named}
use Rattle.tables_keeper.proofs.RowLemmas.{distinct_set, distinct_push}
use Rattle.tables_keeper.proofs.row.RowCells.put.Goals as goal

pub invariant_of-self : goal.invariant_of-self
invariant_of-self c =
    let found : position (is_named c.args.column.name) c.self.inside.columns.items ≡ Some c.in-Some.place = search rules in
    distinct_set c.self.inside.columns.items c.in-Some.place c.args.column c.self.invariant found

pub invariant_of-self-in-Some-2 : goal.invariant_of-self-in-Some-2
invariant_of-self-in-Some-2 c =
    let found : position (is_named c.args.column.name) c.self.inside.columns.items ≡ Some c.in-Some.place = search rules in
    distinct_set c.self.inside.columns.items c.in-Some.place c.args.column c.self.invariant found

pub invariant_of-self-in-Continue-1 : goal.invariant_of-self-in-Continue-1
invariant_of-self-in-Continue-1 c =
    let none : position (is_named c.args.column.name) c.self.inside.columns.items ≡ None = search rules in
    rw c.in_ok-push-in-None.ensures.items (distinct_push c.self.inside.columns.items c.args.column c.self.invariant none)
