use Rattle.std.proofs.Common.{◌∙◌, ◌+◌, ap, sym, subst, drop, reverse, [], ◌∷◌, IsTrue, Ok}
use Rattle.std.proofs.lemmas.List.{drop_all}
use Rattle.order_map.specs.Arrays.{pairs_of, next_of}
use Rattle.php_values.specs.Data.{no_pairs, data_pairs}
use Rattle.session_book.specs.declared.mark.Mark.TheVariants.{Close}
use Rattle.session_book.specs.Kept.{is_sound_array}
use Rattle.session_book.specs.Marks.{told, content, with_marks}
use Rattle.session_book.specs.Steps.{whole_of, completed, IsTaken}
use Rattle.session_book.proofs.Lists.{drop-item}
use Rattle.session_book.proofs.Making.{nothing-more}
use Rattle.session_book.proofs.read.to_array.Goals as goal

pub loop-mark-init : goal.loop-mark-init
loop-mark-init c =
    sym c.value.view_is ∙ ap (λ ms. content ms c.value.inside.next) (sym c.as_slice-mark-items.ensures.value)
    ∙ sym (λ i. completed (reverse (c.new.ensures.items i)) (c.empty.ensures.pairs i) (c.empty.ensures.next i) (told c.as_slice-mark-items.result.now))

pub take-requires : goal.take-requires
take-requires c =
    let ms = c.as_slice-mark-items.result.now in
    let front = drop-item ms c.loop-mark.mark-index c.mark-item.result c.loop-mark-test.true c.mark-item.is in
    let e = c.loop-mark.invariant ∙ ap (λ l. whole_of c.loop-mark.making (with_marks l (no_pairs ∷ []))) front in
    record {
      rest = with_marks (drop (c.loop-mark.mark-index + 1) ms) (no_pairs ∷ []);
      sound = subst (λ a. IsTrue (is_sound_array a)) (c.value.view_is ∙ e) c.value.invariant.sound;
    }

pub loop-mark-preserved : goal.loop-mark-preserved
loop-mark-preserved c =
    let ms = c.as_slice-mark-items.result.now in
    let front = drop-item ms c.loop-mark.mark-index c.mark-item.result c.loop-mark-test.true c.mark-item.is in
    let taken = subst (λ b. IsTaken c.loop-mark.making c.take.new.self c.mark-item.result (Ok b)) c.if-not-branch.false c.in_ok-take.ensures in
    c.loop-mark.invariant ∙ ap (λ l. whole_of c.loop-mark.making (with_marks l (no_pairs ∷ []))) front
    ∙ sym (taken (with_marks (drop (c.loop-mark.mark-index + 1) ms) (no_pairs ∷ [])))

pub loop-making-init : goal.loop-making-init
loop-making-init c =
    c.loop-mark.invariant
    ∙ ap (λ l. whole_of c.loop-mark.making (with_marks l (no_pairs ∷ []))) (drop_all c.loop-mark.mark-index c.as_slice-mark-items.result.now c.loop-mark-test.false)

pub close-requires : goal.close-requires
close-requires c = record {
  rest = [];
  sound = subst (λ a. IsTrue (is_sound_array a)) (c.value.view_is ∙ c.loop-making.invariant) c.value.invariant.sound;
}

pub loop-making-smaller : goal.loop-making-smaller
loop-making-smaller c = c.in_ok-close.ensures.falls c.if-branch.true

pub loop-making-preserved : goal.loop-making-preserved
loop-making-preserved c =
    let taken = subst (λ b. IsTaken c.loop-making.making c.close.new.self Close (Ok b)) c.if-branch.true c.in_ok-close.ensures.taken in
    c.loop-making.invariant ∙ sym (taken []) ∙ nothing-more (reverse c.close.new.self.above.items) (data_pairs (pairs_of c.close.new.self.map)) (next_of c.close.new.self.map)
