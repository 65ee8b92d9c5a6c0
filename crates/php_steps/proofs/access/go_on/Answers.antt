use Rattle.php_steps.proofs.Rows.{first_of, go-index, go-property}
use Rattle.php_steps.proofs.access.go_on.Goals as goal

pub returns-in_ok-push-in-Index : goal.returns-in_ok-push-in-Index
returns-in_ok-push-in-Index c = go-index _ _ _ _ _ _ _ (first_of c.args.accesses.now _ _ c.in-len1-up.len_at_least c.first-item.is c.in-Index.is) c.in_ok-push-in-Index.ensures.ok

pub returns-in_ok-push-in-Property : goal.returns-in_ok-push-in-Property
returns-in_ok-push-in-Property c = go-property _ _ _ _ _ _ _ (first_of c.args.accesses.now _ _ c.in-len1-up.len_at_least c.first-item.is c.in-Property.is) c.in_ok-push-in-Property.ensures.ok
