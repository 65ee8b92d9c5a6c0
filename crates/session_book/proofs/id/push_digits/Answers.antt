use Rattle.std.proofs.Common.{◌≡◌, ◌∙◌, ◌++◌, ◌∷◌, [], ◌-◌, ◌*◌, ◌/◌, ◌%◌, ◌^◌, ap, sym, arith, string_bytes}
use Rattle.session_book.specs.Ids.{digit, digits}
use Rattle.session_book.proofs.Digits.{push-step, digits-none}
use Rattle.session_book.proofs.id.push_digits.Goals as goal

pub loop-place-preserved : goal.loop-place-preserved
loop-place-preserved c =
    let old = string_bytes c.loop-place.text in
    let place = c.loop-place.place in
    let letter : c.from-letter.result ≡ digit (c.args.n / 2 ^ (4 * (place - 1)) % 16) = c.from-letter.ensures ∙ c.digit-byte.ensures.value in
    let ascii = c.in_ok-push.ensures.ascii (omega (arith, c.from-letter.ensures, c.digit-byte.ensures.ascii)) in
    let e = c.in_ok-push.ensures.bytes ∙ ap (λ l. old ++ l) (ascii ∙ ap (λ b. b ∷ []) letter) in
    let bound = c.loop-place.invariant.0 in
    (omega arith, ap (λ t. t ++ digits (place - 1) c.args.n) e ∙ push-step old place c.args.n c.loop-place-test.true ∙ c.loop-place.invariant.1)

pub returns : goal.returns
returns c = sym (digits-none (string_bytes c.loop-place.text) c.loop-place.place c.args.n c.loop-place-test.false) ∙ c.loop-place.invariant.1
