use Rattle.std.proofs.Common.{rules, ◌≡◌, ◌≢◌, ◌∙◌, ◌+◌, ◌++◌, ap, sym, subst, drop, length, ◌<◌}
use Rattle.order_map.specs.Arrays.{pairs_of}
use Rattle.order_map.proofs.Places.{place-some}
use Rattle.php_values.specs.Data.{data_pairs}
use Rattle.php_arguments.specs.Answers.{Ok, Err, go_on}
use Rattle.php_arguments.specs.declared.fault.CallFault.TheVariants.{Memory}
use Rattle.php_text_calls.specs.Pieces.{texts_of}
use Rattle.php_text_calls.proofs.Listings.{texts-step, texts-fault}
use Rattle.php_text_calls.proofs.pieces.texts_of.Goals as goal

pub returns-in_default-clause-ok : goal.returns-in_default-clause-ok
returns-in_default-clause-ok c =
    let i = c.loop-number.number in
    let s = place-some c.args.array.now i (subst (λ n. i < n) c.len-number-end.ensures.count c.loop-number-test.true) in
    absurd (c.in_default.not-Some s.0 (c.loop-number.invariant.place ∙ s.1))

pub returns-in_err-text-clause-err : goal.returns-in_err-text-clause-err
returns-in_err-text-clause-err c =
    let i = c.loop-number.number in
    let ps = pairs_of c.args.array.now in
    let at = sym c.loop-number.invariant.place ∙ c.in-Some.is in
    let fault : c.in_err-text.field-0.0 ≢ Memory → texts_of (data_pairs ps) ≡ Err c.in_err-text.field-0.0 =
    λ known. sym c.loop-number.invariant.rest ∙ texts-fault ps i _ _ _ c.loop-number.texts.items (c.pair.ensures i at) (c.in_err-text.ensures known) in
    search (rules, fault)

pub loop-number-preserved : goal.loop-number-preserved
loop-number-preserved c =
    let i = c.loop-number.number in
    let ps = pairs_of c.args.array.now in
    let at = sym c.loop-number.invariant.place ∙ c.in-Some.is in
    let step = texts-step ps i _ _ c.in_ok-text.text c.loop-number.texts.items (c.pair.ensures i at) c.in_ok-text.ensures in
    record {
      place = c.next_of-place.ensures i at;
      rest = ap (λ done. go_on (texts_of (data_pairs (drop (i + 1) ps))) (λ ts. Ok (done ++ ts))) c.in_ok-push.ensures.items ∙ sym step ∙ c.loop-number.invariant.rest;
    }
