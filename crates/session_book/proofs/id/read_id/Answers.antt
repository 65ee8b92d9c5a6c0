use Rattle.std.proofs.Common.{◌∙◌, ap, sym, false, true, Some, ◌≡◌}
use Rattle.session_book.specs.Ids.{is_id_text, number}
use Rattle.session_book.proofs.Digits.{id-back, id-form, slot-back, draw-back}
use Rattle.session_book.proofs.id.read_id.Goals as goal

pub returns-then-not-is_id_text-clause-finds : goal.returns-then-not-is_id_text-clause-finds
returns-then-not-is_id_text-clause-finds c id fits e =
    let no : false ≡ true = sym c.if-not-is_id_text.true ∙ c.is_id_text.ensures ∙ sym (ap is_id_text e) ∙ id-form id.slot id.draw in
    absurd (cc)

pub returns-clause-back : goal.returns-clause-back
returns-clause-back c =
    id-back c.args.text.now c.number.result c.number-2.result (sym c.is_id_text.ensures ∙ c.if-not-is_id_text.false)
    (c.number.ensures.value ∙ ap (number 0) c.split_at.ensures.front) (c.number-2.ensures.value ∙ ap (number 0) c.split_at.ensures.back)

pub returns-clause-finds : goal.returns-clause-finds
returns-clause-finds c id fits e =
    let s = c.number.ensures.value ∙ ap (number 0) c.split_at.ensures.front ∙ slot-back c.args.text.now id.slot id.draw fits.slot e in
    let d = c.number-2.ensures.value ∙ ap (number 0) c.split_at.ensures.back ∙ draw-back c.args.text.now id.slot id.draw fits.draw e in
    (λ i. Some (record { slot = s i; draw = d i }))
