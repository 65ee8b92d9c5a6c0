use Rattle.std.proofs.Common.{rules, refl}
use Rattle.php_steps.proofs.Rows.{first_of, go-link}
use Rattle.php_steps.proofs.chain.go_on.Goals as goal

pub returns-in_ok-push-in-len1-up-2 : goal.returns-in_ok-push-in-len1-up-2
returns-in_ok-push-in-len1-up-2 c = go-link _ _ _ _ _ _ _ (first_of c.args.links.now _ _ c.in-len1-up.len_at_least c.link-item.is refl) c.decided.ensures (search rules) c.in_ok-push-in-len1-up-2.ensures.ok
