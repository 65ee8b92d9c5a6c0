use Rattle.std.proofs.Common.{sym, ◌∙◌}
use Rattle.php_link.proofs.Goings.{found}
use Rattle.php_link.proofs.names.number_of.Goals as goal

pub returns-in_ok-number-in-Some : goal.returns-in_ok-number-in-Some
returns-in_ok-number-in-Some c = found c.args.names.now c.args.text.now c.in-Some.number c.in_ok-number-in-Some.number c.requires (sym c.number.ensures ∙ c.in-Some.is) c.in_ok-number-in-Some.ensures
