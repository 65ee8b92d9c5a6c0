use Rattle.std.proofs.Common.{ap}
use Rattle.php_values.specs.Data.{null}
use Rattle.php_meaning.specs.Course.{Turns}
use Rattle.php_meaning.specs.Statements.{last_of}
use Rattle.php_rest.specs.Named.{all_named}
use Rattle.php_rest.specs.Rest.{loop_named}
use Rattle.php_rest.specs.Tails.{left_in}
use Rattle.php_statement_begin.proofs.Places.{stepped_at}
use Rattle.php_statement_begin.proofs.parts.for_at.Goals as goal

pub returns : goal.returns
returns c = stepped_at c.args.store.now c.args.scene.now c.stand_at.new.scene _ _ (λ t. last_of (all_named t (left_in c.new.result)) null (λ d. Turns (loop_named t c.args.of)))
    (λ t. last_of (all_named t c.args.first.now) null (λ d. Turns (loop_named t c.args.of))) c.args.line c.in_ok-now.now
    (c.in_ok-now.ensures null) (λ t. ap (λ l. last_of (all_named t l) null (λ d. Turns (loop_named t c.args.of))) c.new.ensures) c.stand_at.ensures
