use Rattle.std.proofs.Common.{arith}
use Rattle.php_text_calls.specs.Escapes.{escaped_byte}
use Rattle.php_text_calls.proofs.Runs.{kept-step}
use Rattle.php_text_calls.proofs.escape.written.Goals as goal

pub loop-i-preserved-then-is_kept : goal.loop-i-preserved-then-is_kept
loop-i-preserved-then-is_kept c =
    let within = c.loop-i.invariant.within in
    let stays = c.is_kept.ensures c.if-is_kept.true in
    record {
      within = omega (arith, within);
      done = kept-step (escaped_byte c.args.escape) c.args.text.now c.loop-i.from c.loop-i.i c.loop-i.out.items _ within c.loop-i-test.true stays c.loop-i.invariant.done;
    }
