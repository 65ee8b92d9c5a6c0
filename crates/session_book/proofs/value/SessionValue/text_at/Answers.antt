use Rattle.std.proofs.Common.{◌∙◌, ◌+◌, ap, sym, arith, drop, [], ◌∷◌}
use Rattle.php_values.specs.Data.{no_pairs}
use Rattle.session_book.specs.Kept as spec
use Rattle.session_book.specs.Marks.{told, with_marks}
use Rattle.session_book.specs.Steps.{sought}
use Rattle.session_book.proofs.Seeking.{seeks-front, seeks-none}
use Rattle.session_book.proofs.value.SessionValue.text_at.Goals as goal

pub loop-mark-init : goal.loop-mark-init
loop-mark-init c = record {
  found = sym (ap (spec.text_at c.args.key.now) c.self.view_is) ∙ sym (ap (λ ms. sought c.args.key.now 0 (told ms)) c.as_slice-mark-items.ensures.value);
  within = omega arith;
}

pub pass-requires : goal.pass-requires
pass-requires c = omega (arith, c.loop-mark.invariant.within, c.loop-mark-test.true, c.as_slice-mark-items.type_inv.0)

pub returns-in-Ends : goal.returns-in-Ends
returns-in-Ends c =
    let ms = c.as_slice-mark-items.result.now in
    c.in-Ends.ensures.value (with_marks (drop (c.loop-mark.mark-index + 1) ms) (no_pairs ∷ []))
    ∙ sym (seeks-front c.args.key.now ms (spec.text_at c.args.key.now c.args.self.now) c.loop-mark.depth c.loop-mark.mark-index c.mark-item.result c.loop-mark.invariant c.loop-mark-test.true c.mark-item.is)

pub loop-mark-preserved : goal.loop-mark-preserved
loop-mark-preserved c =
    let ms = c.as_slice-mark-items.result.now in
    record {
      found = seeks-front c.args.key.now ms (spec.text_at c.args.key.now c.args.self.now) c.loop-mark.depth c.loop-mark.mark-index c.mark-item.result c.loop-mark.invariant c.loop-mark-test.true c.mark-item.is
          ∙ c.in-Goes.ensures.value (with_marks (drop (c.loop-mark.mark-index + 1) ms) (no_pairs ∷ []));
      within = omega (arith, c.in-Goes.ensures.within, c.loop-mark.invariant.within);
    }

pub returns : goal.returns
returns c = seeks-none c.args.key.now c.as_slice-mark-items.result.now (spec.text_at c.args.key.now c.args.self.now) c.loop-mark.depth c.loop-mark.mark-index c.loop-mark.invariant c.loop-mark-test.false
