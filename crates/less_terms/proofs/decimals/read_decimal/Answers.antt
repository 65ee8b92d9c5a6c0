use Rattle.std.proofs.Common.{◌≡◌, ◌+◌, ◌-◌, ◌*◌, ◌^◌, ◌≤◌, true, get_or, sym, arith}
use Rattle.std.proofs.lemmas.Grind.{common_steps}
use Rattle.less_terms.specs.Decimals.{is_decimal}
use Rattle.less_terms.proofs.Digits.{passes}
use Rattle.less_terms.proofs.decimals.read_decimal.Goals as goal

pub returns-in_default : goal.returns-in_default
returns-in_default c =
    let text = c.args.text.now in
    let within = c.loop-byte-test.true in
    let is_one : is_decimal text ≡ true = grind (arith, common_steps) in
    let large : 2 ^ 64 ≤ c.loop-byte.value * 10 + (get_or text c.loop-byte.byte-index 0 - 48) = grind (arith, common_steps) in
    sym (passes c.args.most text c.loop-byte.byte-index c.loop-byte.value (grind (arith, common_steps)) is_one within c.loop-byte.invariant large)
