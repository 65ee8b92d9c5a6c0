use Rattle.std.proofs.Common.{◌+◌, ◌∙◌, ap, sym}
use Rattle.session_book.specs.Sizes.{array_size}
use Rattle.session_book.specs.Steps.{marks_size}
use Rattle.session_book.proofs.Sizes.{summed-none, summed-step, summed-all, written-size}
use Rattle.session_book.proofs.size.size_of_session.Goals as goal

pub loop-mark-init : goal.loop-mark-init
loop-mark-init c = summed-none c.as_slice-mark-items.result.now

pub loop-mark-preserved : goal.loop-mark-preserved
loop-mark-preserved c =
    summed-step c.as_slice-mark-items.result.now c.loop-mark.size c.loop-mark.mark-index c.mark-item.result c.size.result c.saturating_add-size.result
    c.loop-mark.invariant c.loop-mark-test.true c.mark-item.is c.size.ensures c.saturating_add-size.ensures

pub returns : goal.returns
returns c =
    summed-all c.as_slice-mark-items.result.now c.loop-mark.size c.loop-mark.mark-index (array_size c.args.value.now) c.loop-mark.invariant c.loop-mark-test.false
    (sym (ap array_size c.value.view_is) ∙ written-size c.value.inside.marks.items c.value.inside.next c.value.invariant ∙ ap (λ ms. 5 + marks_size ms) (sym c.as_slice-mark-items.ensures.value))
