use Rattle.std.proofs.Common.{◌+◌, ◌*◌, arith, subst, sym}
use Rattle.session_book.proofs.Digits.{Counted, counted-room, counted-step}
use Rattle.session_book.proofs.id.number.Goals as goal

pub overflow_mul-n : goal.overflow_mul-n
overflow_mul-n c =
    let r = counted-room c.args.text.now c.loop-byte.n c.loop-byte.byte-index c.loop-byte.invariant c.loop-byte-test.true c.requires.room in
    omega arith

pub overflow_add-n : goal.overflow_add-n
overflow_add-n c =
    let r = counted-room c.args.text.now c.loop-byte.n c.loop-byte.byte-index c.loop-byte.invariant c.loop-byte-test.true c.requires.room in
    let v = c.digit_value.ensures.within in
    omega arith

pub loop-byte-preserved : goal.loop-byte-preserved
loop-byte-preserved c =
    subst (λ v. Counted c.args.text.now (c.loop-byte.n * 16 + v) (c.loop-byte.byte-index + 1)) (sym c.digit_value.ensures.value)
    (counted-step c.args.text.now c.loop-byte.n c.loop-byte.byte-index c.loop-byte.invariant c.loop-byte-test.true)
