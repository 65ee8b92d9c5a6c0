use Rattle.std.proofs.Common.{sym, ap, subst, ◌∙◌}
use Rattle.std.specs.declared.option.Option.TheVariants.{Some}
use Rattle.app_load.specs.CopyParts.{IsGone}
use Rattle.php_bodies.proofs.Placeholders.{one_stub, one_body}
use Rattle.php_bodies.proofs.removed.unless_stub.Goals as goal

pub returns-then-is_removed : goal.returns-then-is_removed
returns-then-is_removed c = λ e t. subst (λ q. IsGone (Some q)) (sym (one_stub t c.args.statements.now c.args.first.now e (sym c.is_removed.ensures ∙ c.if-is_removed.true))) (tt {0})

pub returns : goal.returns
returns c = λ e t. ap Some (one_body t c.args.statements.now c.args.first.now e (sym c.is_removed.ensures ∙ c.if-is_removed.false))
