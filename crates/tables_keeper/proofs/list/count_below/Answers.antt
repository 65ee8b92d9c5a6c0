use Rattle.std.proofs.Common.{sym, ◌∙◌, rules, of_calls}
use Rattle.std.proofs.lemmas.Fn.{always_returns_same}
use Rattle.tables_keeper.proofs.TableLemmas.{prefix_len_at}
use Rattle.tables_keeper.proofs.NameLemmas.{is_below, names_part, tables_before-views, empty_view}
use Rattle.tables_keeper.proofs.list.count_below.Goals as goal

pub returns-clause-place : goal.returns-clause-place
returns-clause-place c =
    let name = c.args.name.now in
    let views = c.args.list.now in
    let point = c.partition_point.ensures.partitioned (is_below name) (always_returns_same _ _ _ (λ a r f k. search (rules, of_calls))) (names_part name views c.requires) in
    sym (tables_before-views name views ∙ prefix_len_at (is_below name) views c.partition_point.result empty_view c.partition_point.ensures.bound point)
