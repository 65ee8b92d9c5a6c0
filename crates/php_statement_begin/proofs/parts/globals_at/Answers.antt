use Rattle.std.proofs.Common.{ap, ◌∙◌, map}
use Rattle.php_world.specs.View.{vars_of}
use Rattle.php_meaning.specs.Statements.{globals_named}
use Rattle.php_meaning.specs.World.{with_vars}
use Rattle.php_rest.specs.Rest.{rest}
use Rattle.php_statement_begin.proofs.Places.{bound_at}
use Rattle.php_statement_begin.proofs.parts.globals_at.Goals as goal

pub returns : goal.returns
returns c = λ stack t w k. bound_at c.args.store.now c.bind_globals.new.store c.args.scene.now c.stand_at.new.scene (λ u. globals_named (map u.name c.args.numbers.now)) c.args.line
    (λ u v. c.in_ok-bind_globals.ensures u v ∙ ap (λ l. globals_named (map u.name l) (with_vars (vars_of u c.args.store.now) v)) c.as_slice.ensures) c.stand_at.ensures t w (rest t stack k)
