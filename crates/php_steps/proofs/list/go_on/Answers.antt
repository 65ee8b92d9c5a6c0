use Rattle.std.proofs.Common.{refl}
use Rattle.php_steps.proofs.Rows.{first_of, go-value, go-pair}
use Rattle.php_steps.proofs.list.go_on.Goals as goal

pub returns-in_ok-push-in-Value-clause-law : goal.returns-in_ok-push-in-Value-clause-law
returns-in_ok-push-in-Value-clause-law c = go-value _ _ _ _ _ _ (first_of c.args.items.now _ _ c.in-len1-up.len_at_least c.first-item.is c.in-Value.is) c.in_ok-push-in-Value.ensures.ok

pub returns-in_ok-push-in-Pair-clause-law : goal.returns-in_ok-push-in-Pair-clause-law
returns-in_ok-push-in-Pair-clause-law c = go-pair _ _ _ _ _ _ _ _ (first_of c.args.items.now _ _ c.in-len1-up.len_at_least c.first-item.is c.in-Pair.is) refl c.in_ok-push-in-Pair.ensures.ok
