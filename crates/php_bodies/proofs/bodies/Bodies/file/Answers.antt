use Rattle.std.proofs.Common.{sym, ap, ◌∙◌}
use Rattle.std.specs.Option.{option_copied}
use Rattle.php_bodies.proofs.Looks.{no_file_there, file_there}
use Rattle.php_bodies.proofs.bodies.Bodies.file.Goals as goal

pub returns-in-None : goal.returns-in-None
returns-in-None c = λ p t are. no_file_there p c.args.self.now t c.args.path.now are (sym c.get.ensures ∙ ap option_copied c.in-None.is)

pub returns-in-Some : goal.returns-in-Some
returns-in-Some c = λ p t are. file_there p c.args.self.now t c.args.path.now are c.in-Some.here.now c.unless_removed.result (sym c.get.ensures ∙ ap option_copied c.in-Some.is) (c.unless_removed.ensures t)
