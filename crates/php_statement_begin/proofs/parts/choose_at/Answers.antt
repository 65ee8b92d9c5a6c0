use Rattle.std.proofs.Common.{ap}
use Rattle.php_meaning.specs.Statements.{arms, statements}
use Rattle.php_rest.specs.Named.{arms_named, block_named}
use Rattle.php_rest.specs.Tails.{left_in}
use Rattle.php_statement_begin.proofs.Places.{stepped_at}
use Rattle.php_statement_begin.proofs.parts.choose_at.Goals as goal

pub returns : goal.returns
returns c = stepped_at c.args.store.now c.args.scene.now c.stand_at.new.scene _ _ (λ t. arms (arms_named t (left_in c.new.result)) (statements (block_named t c.args.others.now)))
    (λ t. arms (arms_named t c.args.arms.now) (statements (block_named t c.args.others.now))) c.args.line c.in_ok-now.now
    c.in_ok-now.ensures (λ t. ap (λ l. arms (arms_named t l) (statements (block_named t c.args.others.now))) c.new.ensures) c.stand_at.ensures
