use Rattle.std.proofs.Common.{rules, ◌≡◌, sym, Err}
use Rattle.request_map.specs.Heads.{parsed_head}
use Rattle.request_map.specs.declared.fault.RequestFault.TheVariants.{Link}
use Rattle.request_map.proofs.ReadAnswers.{head_failed, refused_read, judged_read, outside_read, no_link}
use Rattle.request_map.proofs.reading.read_request.Goals as goal

pub returns-in_err-bytes-clause-read : goal.returns-in_err-bytes-clause-read
returns-in_err-bytes-clause-read g c =
    let e : c.from_residual.result ≡ Err c.in_err-bytes.field-0.0 = search rules in
    rw e (outside_read _ _ c.in_err-bytes.field-0.0 c.in_err-bytes.ensures.kinds)

pub returns-in_err-head-clause-read : goal.returns-in_err-head-clause-read
returns-in_err-head-clause-read g c =
    let e : c.from_residual-in_err-head.result ≡ Err c.in_err-head.field-0.0 = search rules in
    rw e (head_failed _ _ c.in_ok-bytes.bytes.items c.in_err-head.field-0.0 c.in_ok-bytes.ensures.read (rw c.deref.ensures.value at c.in_err-head.ensures.none))

pub returns-in_err-size-clause-read : goal.returns-in_err-size-clause-read
returns-in_err-size-clause-read g c =
    let e : c.from_residual-in_err-size.result ≡ Err c.in_err-size.field-0.0 = search rules in
    rw e (refused_read _ _ c.in_ok-bytes.bytes.items c.in_ok-head.head c.in_err-size.field-0.0 c.in_ok-bytes.ensures.read (rw c.deref.ensures.value at c.in_ok-head.ensures.parsed) (sym c.in_err-size.ensures))

pub returns-in_err-size-clause-cause : goal.returns-in_err-size-clause-cause
returns-in_err-size-clause-cause g c = λ link.
    let e : c.from_residual-in_err-size.result ≡ Err c.in_err-size.field-0.0 = search rules in
    let wrong = rw e at link in
    let same : c.in_err-size.field-0.0 ≡ Link = cc wrong in
    absurd (no_link (parsed_head c.in_ok-head.head) c.in_err-size.field-0.0 (sym c.in_err-size.ensures) same)

pub returns-in_err-body-clause-read : goal.returns-in_err-body-clause-read
returns-in_err-body-clause-read g c =
    let e : c.from_residual-in_err-body.result ≡ Err c.in_err-body.field-0.0 = search rules in
    rw e (outside_read _ _ c.in_err-body.field-0.0 c.in_err-body.ensures.kinds)

pub returns-in_err-request-clause-read : goal.returns-in_err-request-clause-read
returns-in_err-request-clause-read g c =
    let e : c.from_residual-in_err-request.result ≡ Err c.in_err-request.field-0.0 = search rules in
    rw e (judged_read _ _ _ c.in_ok-bytes.bytes.items c.in_ok-head.head c.in_ok-size.size c.in_ok-body.body.items _ c.in_ok-bytes.ensures.read (rw c.deref.ensures.value at c.in_ok-head.ensures.parsed) (sym c.in_ok-size.ensures) c.in_ok-body.ensures.read c.in_err-request.ensures)

pub returns-clause-read : goal.returns-clause-read
returns-clause-read g c =
    judged_read _ _ _ c.in_ok-bytes.bytes.items c.in_ok-head.head c.in_ok-size.size c.in_ok-body.body.items _ c.in_ok-bytes.ensures.read (rw c.deref.ensures.value at c.in_ok-head.ensures.parsed) (sym c.in_ok-size.ensures) c.in_ok-body.ensures.read c.in_ok-request.ensures
