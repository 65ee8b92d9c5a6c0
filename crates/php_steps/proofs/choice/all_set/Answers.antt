use Rattle.std.proofs.Common.{refl}
use Rattle.php_steps.proofs.Rows.{first_of, go-asked}
use Rattle.php_steps.proofs.choice.all_set.Goals as goal

pub returns-in_ok-push-in-len1-up-clause-law : goal.returns-in_ok-push-in-len1-up-clause-law
returns-in_ok-push-in-len1-up-clause-law c = go-asked _ _ _ _ _ (first_of c.args.asked.now _ _ c.in-len1-up.len_at_least c.first-item.is refl) c.in_ok-push-in-len1-up.ensures.ok
