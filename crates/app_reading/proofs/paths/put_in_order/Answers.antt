use Rattle.std.proofs.lemmas.List.Filters.{dedup_is}
use Rattle.app_reading.proofs.Lists.{once_ascending, once_same}
use Rattle.app_reading.proofs.paths.put_in_order.Goals as goal

pub returns-clause-ascending : goal.returns-clause-ascending
returns-clause-ascending c = rw (dedup_is _ _ _ c.dedup.ensures.filtered) (once_ascending _ c.sort_unstable.ensures.sorted)

pub returns-clause-same : goal.returns-clause-same
returns-clause-same c = λ p. rw (dedup_is _ _ _ c.dedup.ensures.filtered) (once_same _ _ c.sort_unstable.ensures.permutation p)
