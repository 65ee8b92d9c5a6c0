use Rattle.std.proofs.Common.{◌∙◌, ◌+◌, ap, sym, subst, drop, ◌<◌}
use Rattle.order_map.specs.Arrays.{pairs_of}
use Rattle.order_map.proofs.Places.{place-some}
use Rattle.php_values.specs.Data.{array_of, data_pairs}
use Rattle.php_values.specs.Arithmetic.{with_missing}
use Rattle.php_values.proofs.Datas.{missing-step}
use Rattle.php_values.proofs.union.add_missing.Goals as goal

pub returns-in_default : goal.returns-in_default
returns-in_default c =
    let i = c.loop-number.number in
    let s = place-some c.args.from.now i (subst (λ n. i < n) c.len-number-end.ensures.count c.loop-number-test.true) in
    absurd (c.in_default.not-Some s.0 (c.loop-number.invariant.place ∙ s.1))

pub loop-number-preserved : goal.loop-number-preserved
loop-number-preserved c =
    let i = c.loop-number.number in
    let ps = pairs_of c.args.from.now in
    let at = sym c.loop-number.invariant.place ∙ c.in-Some.is in
    record {
      place = c.next_of-place.ensures i at;
      rest = ap (λ a. with_missing a (data_pairs (drop (i + 1) ps))) c.in_ok-add_if_missing.ensures ∙ missing-step (array_of c.loop-number.map) ps i _ _ (c.pair.ensures i at) ∙ c.loop-number.invariant.rest;
    }
