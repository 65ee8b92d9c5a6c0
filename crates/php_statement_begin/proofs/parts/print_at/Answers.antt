use Rattle.std.proofs.Common.{ap}
use Rattle.php_meaning.specs.Course.{Normal, hand}
use Rattle.php_meaning.specs.Operators.{put_out}
use Rattle.php_rest.specs.Rest.{rest}
use Rattle.php_statement_begin.proofs.Places.{stepped_at}
use Rattle.php_statement_begin.proofs.parts.print_at.Goals as goal

pub returns : goal.returns
returns c = λ stack. stepped_at c.args.store.now c.args.scene.now c.stand_at.new.scene stack stack (λ t. put_out c.as_slice.result.now (hand Normal)) (λ t. put_out c.args.bytes.now (hand Normal)) c.args.line c.in_ok-now.now
    (λ t w k. ap (λ f. f w (rest t stack k)) (c.in_ok-now.ensures t)) (λ t. ap (λ b. put_out b (hand Normal)) c.as_slice.ensures) c.stand_at.ensures
