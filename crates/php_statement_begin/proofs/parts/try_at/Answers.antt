use Rattle.std.proofs.Common.{ap, ◌∙◌}
use Rattle.php_meaning.specs.Course.{Ticks}
use Rattle.php_meaning.specs.Statements.{statements}
use Rattle.php_meaning.specs.World.{at_line}
use Rattle.php_rest.specs.Named.{block_named}
use Rattle.php_rest.specs.Rest.{rest}
use Rattle.php_rest.specs.declared.now.Now.TheVariants as now
use Rattle.php_statement_steps.specs.Standing.{stands}
use Rattle.php_statement_begin.proofs.Places.{next_at}
use Rattle.php_statement_begin.proofs.parts.try_at.Goals as goal

pub returns : goal.returns
returns c = λ stack t w k. next_at c.args.store.now c.args.scene.now c.stand_at.new.scene (now.Block c.new.result) c.args.line c.stand_at.ensures stack t w k
    ∙ ap (λ b. Ticks (stands t c.args.store.now c.args.scene.now w) (statements (block_named t b) (at_line c.args.line (stands t c.args.store.now c.args.scene.now w)) (rest t stack k))) c.new.ensures
