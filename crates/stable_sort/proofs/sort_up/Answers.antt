use Rattle.std.proofs.Common.{rules, ◌≡◌}
use Rattle.std.specs.Ordering.{is_lt}
use Rattle.std.proofs.lemmas.List.Sorted.{ranks_by, answers_always}
use Rattle.stable_sort.specs.declared.Ranked.{Ranked}
use Rattle.stable_sort.proofs.Sorted.{sorted-is, on_ok}
use Rattle.stable_sort.proofs.sort_up.Goals as goal

pub returns-clause-ok : goal.returns-clause-ok
returns-clause-ok g c =
    let order = ranks_by g.met.K.Ord.total {X = Ranked g.row.K.Denot g.row.T.Denot} (λ x. x.rank) in
    let answers = answers_always _ (λ a r. is_lt r ≡ is_lt (g.K.Ord.cmp a.0.now.rank a.1.0.now.rank)) _ (λ f a r h k. search (rules, k)) in
    on_ok c.sort_by.result (λ s. sorted-is _ order c.args.things.now.items c.sort_by.new.self.items (s _ order answers) (c.sort_by.ensures.stable _ order answers)) c.sort_by.ensures.sorted
