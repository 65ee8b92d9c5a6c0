use Rattle.std.proofs.Common.{ap}
use Rattle.php_meaning.specs.Statements.{all_unset}
use Rattle.php_rest.specs.Named.{all_named}
use Rattle.php_rest.specs.Tails.{left_in}
use Rattle.php_statement_begin.proofs.Places.{written_at}
use Rattle.php_statement_begin.proofs.parts.unset_at.Goals as goal

pub returns : goal.returns
returns c = written_at c.args.store.now c.unset_all.new.store c.args.scene.now c.stand_at.new.scene c.args.stack.now c.unset_all.new.stack (λ t. all_unset (all_named t (left_in c.new.result))) (λ t. all_unset (all_named t c.args.places.now)) c.args.line c.in_ok-now.now
    c.in_ok-now.ensures (λ t. ap (λ l. all_unset (all_named t l)) c.new.ensures) c.stand_at.ensures
