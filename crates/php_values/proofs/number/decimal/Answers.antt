use Rattle.std.proofs.Common.{arith, drop, get_or, ◌+◌, ◌*◌, ◌-◌}
use Rattle.php_values.proofs.Digits.{digits_from-ge, digits_from-step}
use Rattle.php_values.proofs.number.decimal.Goals as goal

pub returns-then-n-digit : goal.returns-then-n-digit
returns-then-n-digit c =
    let ds = c.args.digits.now in
    let i = c.loop-b.b-index in
    let n = c.loop-b.n in
    let step = digits_from-step n ds i c.loop-b-test.true in
    let more = digits_from-ge (n * 10 + (get_or ds i 0 - 48)) (drop (i + 1) ds) in
    let old = c.loop-b.invariant.0 in
    omega (arith, step, more, old)
