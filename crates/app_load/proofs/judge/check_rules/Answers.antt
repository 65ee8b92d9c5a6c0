use Rattle.std.proofs.Common.{arith, refl}
use Rattle.std.proofs.lemmas.Grind.{common_steps}
use Rattle.app_load.specs.Findings.{name_of}
use Rattle.app_load.proofs.Verdicts.{twice_refused}
use Rattle.app_load.proofs.judge.check_rules.Goals as goal

pub returns-in-Some-clause-fault : goal.returns-in-Some-clause-fault
returns-in-Some-clause-fault c = twice_refused c.args.tree.now (name_of c.in-Some.name) _ _ (grind (arith, common_steps)) refl c.in_ok-lower.ensures
