use Rattle.std.proofs.Common.{not, ap, ◌∙◌}
use Rattle.app_load.specs.Seen.{has}
use Rattle.app_load.proofs.Keys.{contains_has, has_insert}
use Rattle.app_load.proofs.twice.is_new.Goals as goal

pub returns-clause-new : goal.returns-clause-new
returns-clause-new c = c.in_ok-is_new.ensures.added ∙ ap not (contains_has c.args.seen.now.keys c.args.key)

pub returns-clause-added : goal.returns-clause-added
returns-clause-added c = λ k. ap (λ ks. has ks k) c.in_ok-is_new.ensures.keys ∙ has_insert c.args.seen.now.keys c.args.key k
