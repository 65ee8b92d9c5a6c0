use Rattle.php_steps.proofs.Rows.{first_of, go-yes, go-no, go-other}
use Rattle.php_steps.proofs.choice.go_on.Goals as goal

pub returns-then-holds : goal.returns-then-holds
returns-then-holds c = go-yes _ _ _ _ _ _ _ _ (first_of c.args.branches.now _ _ c.in-len1-up.len_at_least c.first-item.is c.in-Full.is) c.truth-holds.ensures c.if-holds.true c.in_ok-push-in-Full.ensures.ok

pub returns-in-Full : goal.returns-in-Full
returns-in-Full c = go-no _ _ _ _ _ _ _ _ (first_of c.args.branches.now _ _ c.in-len1-up.len_at_least c.first-item.is c.in-Full.is) c.truth-holds.ensures c.if-holds.false c.in_ok-push-in-Full.ensures.ok

pub returns : goal.returns
returns c = go-other _ _ _ _ _ _ _ (first_of c.args.branches.now _ _ c.in-len1-up.len_at_least c.first-item.is c.in-Short.is) c.truth-kept.ensures c.if-kept.false c.in_ok-push-in-Short.ensures.ok
