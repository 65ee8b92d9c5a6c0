use Rattle.std.proofs.Common.{rules, ◌≡◌, ap, sym, ◌∙◌, Err}
use Rattle.request_map.proofs.Answering.{refused, judged, headless_answer}
use Rattle.request_map.proofs.request.request_of.Goals as goal

pub returns-in_err-head : goal.returns-in_err-head
returns-in_err-head c = λ other.
    let e : c.from_residual.result ≡ Err c.in_err-head.field-0.0 = search rules in
    let none = c.in_err-head.ensures.none (λ m. other (e ∙ ap Err m)) in
    rw e (headless_answer c.args.bytes.now c.in_err-head.field-0.0 (rw c.front_of.ensures.value at none))

pub returns-in_err-size : goal.returns-in_err-size
returns-in_err-size c = λ other.
    let e : c.from_residual-in_err-size.result ≡ Err c.in_err-size.field-0.0 = search rules in
    rw e (refused c.args.bytes.now c.in_ok-head.head c.in_err-size.field-0.0 (rw c.front_of.ensures.value at c.in_ok-head.ensures.parsed) (sym c.in_err-size.ensures))

pub returns-in_err-request : goal.returns-in_err-request
returns-in_err-request c = λ other.
    let e : c.from_residual-in_err-request.result ≡ Err c.in_err-request.field-0.0 = search rules in
    rw e (judged c.args.bytes.now c.in_ok-head.head c.in_ok-size.size c.in_ok-body.body.items (Err c.in_err-request.field-0.0)
    (rw c.front_of.ensures.value at c.in_ok-head.ensures.parsed) (sym c.in_ok-size.ensures)
    (rw (c.in_ok-body.ensures.items, c.front_of-2.ensures.value, c.split_at.ensures.back)) c.in_err-request.ensures)

pub returns : goal.returns
returns c = λ other.
    judged c.args.bytes.now c.in_ok-head.head c.in_ok-size.size c.in_ok-body.body.items _
    (rw c.front_of.ensures.value at c.in_ok-head.ensures.parsed) (sym c.in_ok-size.ensures)
    (rw (c.in_ok-body.ensures.items, c.front_of-2.ensures.value, c.split_at.ensures.back)) c.in_ok-request.ensures
