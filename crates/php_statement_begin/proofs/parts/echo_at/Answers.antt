use Rattle.std.proofs.Common.{ap}
use Rattle.php_meaning.specs.Statements.{echoes}
use Rattle.php_rest.specs.Named.{all_named}
use Rattle.php_rest.specs.Tails.{left_in}
use Rattle.php_statement_begin.proofs.Places.{stepped_at}
use Rattle.php_statement_begin.proofs.parts.echo_at.Goals as goal

pub returns : goal.returns
returns c = stepped_at c.args.store.now c.args.scene.now c.stand_at.new.scene _ _ (λ t. echoes (all_named t (left_in c.new.result))) (λ t. echoes (all_named t c.args.asked.now)) c.args.line c.in_ok-now.now
    c.in_ok-now.ensures (λ t. ap (λ l. echoes (all_named t l)) c.new.ensures) c.stand_at.ensures
