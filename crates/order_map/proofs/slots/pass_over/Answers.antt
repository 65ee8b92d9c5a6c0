use Rattle.std.proofs.Common.{arith, ◌≡◌, ◌+◌, suc, [], sym, ◌∙◌, subst, take}
use Rattle.order_map.specs.Arrays.{pairs_in}
use Rattle.order_map.proofs.Lists.{got}
use Rattle.order_map.proofs.Entries.{front-more}
use Rattle.order_map.proofs.slots.pass_over.Goals as goal

pub loop-at-preserved : goal.loop-at-preserved
loop-at-preserved g c =
    let t = c.loop-at-test.true in
    let q : suc c.loop-at.at ≡ c.loop-at.at + 1 = omega arith in
    subst (λ n. pairs_in (take n c.args.entries.now) ≡ []) q
    (front-more c.args.entries.now c.loop-at.at c.index-entries-at.result (got c.args.entries.now c.loop-at.at c.index-entries-at.result (omega arith) c.index-entries-at.is) (sym c.is_full.ensures ∙ c.if-is_full.false) c.loop-at.invariant)
