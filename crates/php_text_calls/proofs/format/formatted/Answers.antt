use Rattle.std.proofs.Common.{rules, ◌≡◌, ◌≢◌, ◌∙◌, ◌+◌, ◌-◌, [], length, eqb-true, sym, ap, subst, arith}
use Rattle.std.proofs.lemmas.List.{nil_from_length}
use Rattle.php_values.specs.Data.{bytes}
use Rattle.php_arguments.specs.Answers.{Ok, Err, go_on, datas, GivesValue}
use Rattle.php_arguments.specs.declared.fault.CallFault.TheVariants.{Memory}
use Rattle.php_text_calls.specs.Formats.{printed, printing, formatted}
use Rattle.php_text_calls.proofs.Runs.{printed-end, printed-none, printed-step, printed-fault}
use Rattle.php_text_calls.proofs.format.formatted.Goals as goal

pub returns-then-is_empty : goal.returns-then-is_empty
returns-then-is_empty c =
    let t = c.args.text.now in
    let out = c.loop-number.out.items in
    let values = datas c.loop-number.values.now in
    let rest = length t - c.loop-number.number in
    let none : c.loop-number.left.now ≡ [] = nil_from_length _ (eqb-true _ 0 (sym c.is_empty.ensures ∙ c.if-is_empty.true)) in
    let ended = ap (λ left. printed rest (printing out left values)) none ∙ printed-end rest out values in
    let whole : formatted t (datas c.args.values.now) ≡ Ok (bytes out) = ap (λ r. go_on r (λ out. Ok (bytes out))) (sym c.loop-number.invariant ∙ ended) in
    subst (λ e. GivesValue e c.owned_value.result) (sym whole) c.owned_value.ensures

pub returns-in_err-behind : goal.returns-in_err-behind
returns-in_err-behind c =
    let t = c.args.text.now in
    let n = c.loop-number.number in
    let fault : c.in_err-behind.field-0.0 ≢ Memory → formatted t (datas c.args.values.now) ≡ Err c.in_err-behind.field-0.0 =
    λ known. ap (λ r. go_on r (λ out. Ok (bytes out)))
    (sym c.loop-number.invariant ∙ printed-fault (length t - n) (length t - (n + 1)) _ _ (omega (arith, c.loop-number-test.true)) (c.in_err-behind.ensures known)) in
    search (rules, fault)

pub loop-number-preserved : goal.loop-number-preserved
loop-number-preserved c =
    let t = c.args.text.now in
    let n = c.loop-number.number in
    sym (printed-step (length t - n) (length t - (n + 1)) _ _ (omega (arith, c.loop-number-test.true)) c.in_ok-behind.ensures) ∙ c.loop-number.invariant

pub returns : goal.returns
returns c =
    let t = c.args.text.now in
    let ended = printed-none (length t - c.loop-number.number) (printing c.loop-number.out.items c.loop-number.left.now (datas c.loop-number.values.now)) (omega (arith, c.loop-number-test.false)) in
    let whole : formatted t (datas c.args.values.now) ≡ Ok (bytes c.loop-number.out.items) = ap (λ r. go_on r (λ out. Ok (bytes out))) (sym c.loop-number.invariant ∙ ended) in
    subst (λ e. GivesValue e c.owned_value-2.result) (sym whole) c.owned_value-2.ensures
