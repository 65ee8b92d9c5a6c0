use Rattle.std.proofs.Common.{◌∷◌, sym, ap, ◌∙◌}
use Rattle.std.specs.declared.option.Option.TheVariants.{Some}
use Rattle.php_rest.specs.Tails.{left_in}
use Rattle.php_bodies.proofs.Placeholders.{no_statement, more_statements}
use Rattle.php_bodies.proofs.removed.unless_removed.Goals as goal

pub returns-in-None : goal.returns-in-None
returns-in-None c = λ t. ap Some (no_statement t c.args.statements.now (sym c.new.ensures ∙ c.in-None.ensures))

pub returns-then-is_empty : goal.returns-then-is_empty
returns-then-is_empty c = λ t. c.unless_stub.ensures (sym c.new.ensures ∙ c.in-Some.ensures ∙ ap (λ l. c.in-Some.first.now ∷ l) c.if-is_empty.ensures) t

pub returns-else-is_empty : goal.returns-else-is_empty
returns-else-is_empty c = λ t. ap Some (more_statements t c.args.statements.now c.in-Some.first.now (left_in c.in-Some.more) (sym c.new.ensures ∙ c.in-Some.ensures) c.if-is_empty.ensures)
