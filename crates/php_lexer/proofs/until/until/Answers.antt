use Rattle.std.proofs.Common.{◌≡◌, ◌+◌, drop, arith}
use Rattle.php_lexer.specs.Until.{until}
use Rattle.php_lexer.proofs.UntilLemmas.{until_at, until_more, until_found}
use Rattle.php_lexer.proofs.until.until.Goals as goal

pub marks-preserved : goal.marks-preserved
marks-preserved c =
    let z = c.args.z.now in
    let i = c.marks.at in
    let r = c.skip-at-in-marks.result in
    let more = until_more c.args.stop z i c.marks.invariant.0 (c.is_done.ensures.room c.marks-test.true) (c.is_done.ensures.more c.marks-test.true) in
    let skipped : until c.args.stop (drop (i + 1) z) ≡ r + until c.args.stop (drop r (drop (i + 1) z)) = rw c.split_at.ensures.back at c.skip-at-in-marks.ensures.value in
    (until_at c.args.stop z (i + 1) r more skipped, (let back = c.split_at.ensures.back_len in let within = c.skip-at-in-marks.ensures.within in omega arith))

pub returns-clause-value : goal.returns-clause-value
returns-clause-value c = until_found c.args.stop c.args.z.now c.marks.at c.marks.invariant.0 (c.is_done.ensures.done c.marks-test.false)
