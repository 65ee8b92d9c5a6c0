use Rattle.std.proofs.Common.{◌∙◌}
use Rattle.php_rest.specs.Rest.{rest}
use Rattle.php_steps.proofs.Rows.{first_of, go-key, go-member, go-embedded}
use Rattle.php_steps.proofs.quote.go_on.Goals as goal

pub returns-in_ok-now-in-Index-clause-law : goal.returns-in_ok-now-in-Index-clause-law
returns-in_ok-now-in-Index-clause-law c = λ t w k. go-key _ _ _ _ _ _ _ _ t _ k _ (first_of c.args.parts.now _ _ c.in-len1-up.len_at_least c.first-item.is c.in-Index.is) c.in_ok-push-in-len1-up.ensures.ok (c.in_ok-key-in-Index.ensures t w) (c.in_ok-now-in-Index.ensures.law t w (rest t c.push.new.self k))

pub returns-in_ok-now-in-Property-clause-law : goal.returns-in_ok-now-in-Property-clause-law
returns-in_ok-now-in-Property-clause-law c = λ t w k. go-member _ _ _ _ _ _ _ _ t _ k _ (first_of c.args.parts.now _ _ c.in-len1-up.len_at_least c.first-item.is c.in-Property.is) c.in_ok-push-in-len1-up.ensures.ok (c.in_ok-name-in-Property.ensures ∙ c.as_slice-in-Property.ensures) (c.in_ok-now-in-Property.ensures.law t w (rest t c.push.new.self k))

pub returns-in-Embedded-clause-law : goal.returns-in-Embedded-clause-law
returns-in-Embedded-clause-law c = λ t w k. go-embedded _ _ _ _ _ _ (first_of c.args.parts.now _ _ c.in-len1-up.len_at_least c.first-item.is c.in-Embedded.is) c.in_ok-push-in-len1-up.ensures.ok t _ k
