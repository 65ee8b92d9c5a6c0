use Rattle.std.proofs.Common.{sym, ap, ◌∙◌}
use Rattle.php_bodies.specs.Look.{look_in}
use Rattle.php_machine.specs.Whole.{whole}
use Rattle.php_machine.proofs.machine.Machine.one.Goals as goal

pub returns-in_ok-next-in-Print-clause-law : goal.returns-in_ok-next-in-Print-clause-law
returns-in_ok-next-in-Print-clause-law g c = λ p are t fits. c.in_ok-next-in-Print.ensures.law (look_in p) t fits ∙ ap (whole (look_in p t) t c.args.self.now) (sym c.in-Print.is)

pub returns-in_ok-next-in-Give-clause-law : goal.returns-in_ok-next-in-Give-clause-law
returns-in_ok-next-in-Give-clause-law g c = λ p are t fits. c.in_ok-next-in-Give.ensures.law (look_in p) t fits ∙ ap (whole (look_in p t) t c.args.self.now) (sym c.in-Give.is)

pub returns-in_ok-next-in-End-clause-law : goal.returns-in_ok-next-in-End-clause-law
returns-in_ok-next-in-End-clause-law g c = λ p are t fits. c.in_ok-next-in-End.ensures.law (look_in p) t fits ∙ ap (whole (look_in p t) t c.args.self.now) (sym c.in-End.is)

pub returns-in-Fail-clause-law : goal.returns-in-Fail-clause-law
returns-in-Fail-clause-law g c = λ p are t fits. c.fail.ensures (look_in p) t fits ∙ ap (whole (look_in p t) t c.args.self.now) (sym c.in-Fail.is)

pub returns-in_ok-next-in-Enter-clause-law : goal.returns-in_ok-next-in-Enter-clause-law
returns-in_ok-next-in-Enter-clause-law g c = λ p are t fits. c.in_ok-next-in-Enter.ensures.law (look_in p) (λ u. c.in_ok-found-in-Enter.ensures p u are) t fits ∙ ap (whole (look_in p t) t c.args.self.now) (sym c.in-Enter.is)

pub returns-in_ok-next-in_default : goal.returns-in_ok-next-in_default
returns-in_ok-next-in_default g c = record { law = λ p are t fits. c.in_ok-next-in_default.ensures.law (look_in p) t fits; keeps = c.in_ok-next-in_default.ensures.keeps }
