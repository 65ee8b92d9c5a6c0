use Rattle.std.proofs.Common.{sym, ap, ◌∙◌}
use Rattle.std.specs.Option.{option_copied}
use Rattle.php_bodies.proofs.Looks.{no_file_for, no_body_there, body_there}
use Rattle.php_bodies.proofs.bodies.Bodies.function.Goals as goal

pub returns-in-None : goal.returns-in-None
returns-in-None c = λ p t are. no_file_for p c.args.self.now t c.args.path.now are c.args.name.now (sym c.get.ensures ∙ ap option_copied c.in-None.is)

pub returns-in-None-get : goal.returns-in-None-get
returns-in-None-get c = λ p t are. no_body_there p c.args.self.now t c.args.path.now are c.args.name.now c.in-Some.here.now (sym c.get.ensures ∙ ap option_copied c.in-Some.is) (sym c.get-in-Some.ensures ∙ ap option_copied c.in-None-get.is)

pub returns-in-Some-get : goal.returns-in-Some-get
returns-in-Some-get c = λ p t are. body_there p c.args.self.now t c.args.path.now are c.args.name.now c.in-Some.here.now c.in-Some-get.statements.now c.unless_removed.result (sym c.get.ensures ∙ ap option_copied c.in-Some.is) (sym c.get-in-Some.ensures ∙ ap option_copied c.in-Some-get.is) (c.unless_removed.ensures t)
