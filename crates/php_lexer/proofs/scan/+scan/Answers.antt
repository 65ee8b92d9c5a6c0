use Rattle.std.proofs.Common.{◌+◌, ◌-◌, ◌++◌, ◌∷◌, [], ap, sym, ◌∙◌, arith, add-zero, List, ℕ, Bor}
use Rattle.std.proofs.lemmas.Result.{err_from_is_err_and}
use Rattle.php_lexer.specs.Code.{inside}
use Rattle.php_lexer.specs.Pieces.{piece_at}
use Rattle.php_lexer.specs.Texts.{raw_bytes, part_of, with_bytes}
use Rattle.php_lexer.specs.Tokens as tokens
use Rattle.php_lexer.specs.Marks.{mark_at}
use Rattle.php_lexer.specs.Scan.{body_next}
use Rattle.php_lexer.specs.declared.state.Cursor.{Cursor}
use Rattle.php_lexer.specs.declared.state.Next.TheVariants.{Done}
use Rattle.php_lexer.proofs.ScanLemmas.{by_front, by_piece, blank_step, close_step, token_step, open_step, quote_step, quote_fault, finish_ok, finish_fault, shut_ok, leads_next, leads_end, adds_at}
use Rattle.php_lexer.proofs.BodyLemmas.{body_raw, body_variable, body_embedded, body_embedded_fault, along_next, along_fault_next, along_end, close_at}
use Rattle.php_lexer.proofs.scan.+scan.Goals as goal

-- ---- a quoted text's body

pub body_step-returns-in_err-read_embedded-in-Embedded-clause-fault : goal.body_step-returns-in_err-read_embedded-in-Embedded-clause-fault
body_step-returns-in_err-read_embedded-in-Embedded-clause-fault t c =
    let e = c.in-Embedded.ensures.value ∙ ap (piece_at c.args.place.is_double) c.rest-z.ensures.value in
    let p = err_from_is_err_and c.from_residual-in_err-read_embedded-in-Embedded.result c.from_residual-in_err-read_embedded-in-Embedded.ensures.1 in
    rw (p.1, p.2) (λ us. body_embedded_fault c.args.cursor.text.now c.args.place c.args.cursor.at c.args.read.now _ us e c.in_err-read_embedded-in-Embedded.ensures.fault)

pub body_step-returns-in-End-clause-fault : goal.body_step-returns-in-End-clause-fault
body_step-returns-in-End-clause-fault t c =
    λ us. by_piece (c.in-End.ensures.value ∙ ap (piece_at c.args.place.is_double) c.rest-z.ensures.value) tokens.body_open

pub body_step-returns-in_ok-add_raw-in-Raw-clause-leads : goal.body_step-returns-in_ok-add_raw-in-Raw-clause-leads
body_step-returns-in_ok-add_raw-in-Raw-clause-leads t c =
    let i = c.args.cursor.at in
    let z = c.args.cursor.text.now in
    body_raw z c.args.place i c.past.result.at c.args.read.now c.add_raw.new.self _ c.in-Raw.raw
    (c.in-Raw.ensures.value ∙ ap (piece_at c.args.place.is_double) c.rest-z.ensures.value)
    (c.past.ensures.at ∙ ap (λ n. i + n) c.len.ensures)
    c.in_ok-add_raw-in-Raw.ensures.parts
    (c.in_ok-add_raw-in-Raw.ensures.bytes ∙ ap (λ y. c.args.read.now.bytes.items ++ raw_bytes c.in-Raw.raw y) c.rest-z.ensures.value)

pub body_step-returns-in_ok-add_part-in-Var-clause-leads : goal.body_step-returns-in_ok-add_part-in-Var-clause-leads
body_step-returns-in_ok-add_part-in-Var-clause-leads t c =
    let i = c.args.cursor.at in
    let z = c.args.cursor.text.now in
    let part_is = c.in_ok-part-in-Var.ensures ∙ ap (part_of c.in-Var.shape) c.rest-z.ensures.value in
    body_variable z c.args.place i c.past-in-Var.result.at c.args.read.now c.add_part.new.self _ c.in-Var.shape
    (c.in-Var.ensures.value ∙ ap (piece_at c.args.place.is_double) c.rest-z.ensures.value)
    (c.past-in-Var.ensures.at ∙ ap (λ n. i + n) c.len-in-Var.ensures)
    (c.in_ok-add_part-in-Var.ensures.parts ∙ ap (λ y. with_bytes c.args.read.now.parts c.args.read.now.bytes.items ++ y ∷ []) part_is)
    c.in_ok-add_part-in-Var.ensures.bytes

pub body_step-returns-in_ok-read_embedded-in-Embedded-clause-leads : goal.body_step-returns-in_ok-read_embedded-in-Embedded-clause-leads
body_step-returns-in_ok-read_embedded-in-Embedded-clause-leads t c =
    body_embedded c.args.cursor.text.now c.args.place c.args.cursor.at c.in_ok-read_embedded-in-Embedded.field-0.at c.args.read.now c.add_part-in-Embedded.new.self _ _
    (c.in-Embedded.ensures.value ∙ ap (piece_at c.args.place.is_double) c.rest-z.ensures.value)
    c.in_ok-add_part-in-Embedded.ensures.parts
    c.in_ok-add_part-in-Embedded.ensures.bytes
    c.in_ok-read_embedded-in-Embedded.ensures.read

pub body_step-returns-in-Fault-clause-fault : goal.body_step-returns-in-Fault-clause-fault
body_step-returns-in-Fault-clause-fault t c =
    λ us. rw c.fault_at.ensures (by_piece (c.in-Fault.ensures.value ∙ ap (piece_at c.args.place.is_double) c.rest-z.ensures.value) tokens.body_fault)

-- ---- code

pub code_step-returns-then-is_too_deep-clause-fault : goal.code_step-returns-then-is_too_deep-clause-fault
code_step-returns-then-is_too_deep-clause-fault t c =
    rw (c.fault_at.ensures, add-zero) (by_front c.requires.inside (c.in-Quote.ensures.value ∙ ap inside c.rest.ensures.value)
    (tokens.nested (sym c.is_too_deep.ensures.value ∙ c.if-is_too_deep.true)))

pub code_step-returns-in_err-end-in-Quote-clause-fault : goal.code_step-returns-in_err-end-in-Quote-clause-fault
code_step-returns-in_err-end-in-Quote-clause-fault t c =
    let p = err_from_is_err_and c.from_residual-in_err-end-in-Quote.result c.from_residual-in_err-end-in-Quote.ensures.1 in
    rw (p.1, p.2) (quote_fault c.args.state.cursor.text.now c.args.around c.args.state c.in-Quote.is_double _ c.requires.inside
    (c.in-Quote.ensures.value ∙ ap inside c.rest.ensures.value) (sym c.is_too_deep.ensures.value ∙ c.if-is_too_deep.false) c.in_err-end-in-Quote.ensures.fault)

pub code_step-returns-in-End-clause-leads : goal.code_step-returns-in-End-clause-leads
code_step-returns-in-End-clause-leads t c =
    let e = c.in-End.ensures.value ∙ ap inside c.rest.ensures.value in
    finish_ok _ c.args.around c.args.state _ _ _ c.finish.result (λ z. by_front c.requires.inside e (tokens.code_end z)) c.finish.ensures.ok

pub code_step-returns-in-End-clause-fault : goal.code_step-returns-in-End-clause-fault
code_step-returns-in-End-clause-fault t c =
    let e = c.in-End.ensures.value ∙ ap inside c.rest.ensures.value in
    finish_fault _ c.args.around _ c.finish.result (λ n. by_front c.requires.inside e (tokens.code_open n)) c.finish.ensures.err

pub code_step-returns-in-Blank-clause-leads : goal.code_step-returns-in-Blank-clause-leads
code_step-returns-in-Blank-clause-leads t c =
    blank_step _ c.args.around c.args.state _ c.in-Blank.len c.requires.inside (c.in-Blank.ensures.value ∙ ap inside c.rest.ensures.value) c.past.ensures

pub code_step-returns-in_ok-add-in-Close-clause-leads : goal.code_step-returns-in_ok-add-in-Close-clause-leads
code_step-returns-in_ok-add-in-Close-clause-leads t c =
    close_step _ c.args.around c.args.state _ c.in-Close.len c.requires.inside (c.in-Close.ensures.value ∙ ap inside c.rest.ensures.value)
    c.in_ok-add-in-Close.ensures.ok c.past-in-Close.ensures

pub code_step-returns-in_ok-add-in-Token-clause-leads : goal.code_step-returns-in_ok-add-in-Token-clause-leads
code_step-returns-in_ok-add-in-Token-clause-leads t c =
    token_step _ c.args.around c.args.state _ c.in-Token.simple c.in-Token.len c.requires.inside (c.in-Token.ensures.value ∙ ap inside c.rest.ensures.value)
    (c.in_ok-add-in-Token.ensures.ok ∙ ap (λ k. c.args.tokens.now ++ mark_at c.args.state.cursor.text.now k c.args.state.cursor.at c.in-Token.len ∷ []) c.kind_of_simple.ensures)
    c.past-in-Token.ensures

pub code_step-returns-in_ok-open_brace-in-Open-clause-leads : goal.code_step-returns-in_ok-open_brace-in-Open-clause-leads
code_step-returns-in_ok-open_brace-in-Open-clause-leads t c =
    open_step _ c.args.around c.args.state _ c.requires.inside (c.in-Open.ensures.value ∙ ap inside c.rest.ensures.value)
    c.in_ok-open_brace-in-Open.ensures.ok c.in_ok-open_brace-in-Open.ensures.next

pub code_step-returns-in-Shut-clause-leads : goal.code_step-returns-in-Shut-clause-leads
code_step-returns-in-Shut-clause-leads t c =
    shut_ok _ c.args.around c.args.state _ _ c.shut_brace.result c.requires.inside (c.in-Shut.ensures.value ∙ ap inside c.rest.ensures.value)
    c.shut_brace.ensures.ok c.shut_brace.ensures.next

pub code_step-returns-in_ok-end-in-Quote-clause-leads : goal.code_step-returns-in_ok-end-in-Quote-clause-leads
code_step-returns-in_ok-end-in-Quote-clause-leads t c =
    quote_step c.args.state.cursor.text.now c.args.around c.args.state c.moved.result c.in-Quote.is_double c.requires.inside
    (c.in-Quote.ensures.value ∙ ap inside c.rest.ensures.value) (sym c.is_too_deep.ensures.value ∙ c.if-is_too_deep.false)
    (adds_at (sym (ap (λ (x : Cursor). x.at) c.moved.ensures.cursor)) c.in_ok-end-in-Quote.ensures.read) c.moved.ensures.outside c.moved.ensures.depth

pub code_step-returns-in-Fault-clause-fault : goal.code_step-returns-in-Fault-clause-fault
code_step-returns-in-Fault-clause-fault t c =
    rw c.fault_at-in-Fault.ensures (by_front c.requires.inside (c.in-Fault.ensures.value ∙ ap inside c.rest.ensures.value) tokens.code_fault)

-- ---- the loops

pub quoted-returns-in_err-next-clause-fault : goal.quoted-returns-in_err-next-clause-fault
quoted-returns-in_err-next-clause-fault t c =
    let p = err_from_is_err_and c.from_residual-in_err-next.result c.from_residual-in_err-next.ensures.1 in
    rw (p.1, p.2) (along_fault_next c.args.start.text.now c.pieces.cursor.text.now _ c.pieces.cursor.at c.pieces.read _ _ _
    (ap (λ (x : Bor (List ℕ)). x.now) c.pieces.invariant.text) c.pieces.invariant.along c.in_err-next.ensures.fault)

pub quoted-pieces-preserved : goal.quoted-pieces-preserved
quoted-pieces-preserved t c =
    let on = rw c.in-Some.is at c.in_ok-next.ensures.on in
    let start = c.pieces.invariant.on in
    record {
      along = along_next c.args.start.text.now c.pieces.cursor.text.now _ c.pieces.cursor.at _ c.in-Some.next.at c.pieces.read c.body_step.new.read _ _ _
          (ap (λ (x : Bor (List ℕ)). x.now) c.pieces.invariant.text) (ap (λ f. (body_next c.pieces.cursor f).at) c.in-Some.is) c.pieces.invariant.along c.in_ok-next.ensures.leads;
      text = on.0 ∙ c.pieces.invariant.text;
      on = (let step = on.1 in omega arith);
    }

pub quoted-returns-clause-read : goal.quoted-returns-clause-read
quoted-returns-clause-read t c =
    let none = c.in_default.is in
    let closes = rw none at c.in_ok-next.ensures.closes in
    let text = ap (λ (x : Bor (List ℕ)). x.now) c.pieces.invariant.text in
    let along = along_next c.args.start.text.now c.pieces.cursor.text.now _ c.pieces.cursor.at _ c.pieces.cursor.at c.pieces.read c.body_step.new.read _ _ _
    text (ap (λ f. (body_next c.pieces.cursor f).at) none) c.pieces.invariant.along c.in_ok-next.ensures.leads in
    along_end c.args.start.text.now _ c.pieces.cursor.at c.past-end.result.at c.len-slot.result (c.past-end.result.at - c.args.start.at) c.body_step.new.read
    c.args.tokens.now c.body_step.new.tokens c.close.new.tokens along (close_at c.args.start.text.now c.pieces.cursor.text.now c.args.is_double c.pieces.cursor.at text closes.0)
    c.len-slot.ensures c.past-end.ensures.at (ap (λ n. n - c.args.start.at) c.past-end.ensures.at) c.in_ok-close.ensures.ok

pub read-steps-preserved : goal.read-steps-preserved
read-steps-preserved t c =
    let on = rw c.in-More.is at c.in_ok-next.ensures.on in
    let start = c.steps.invariant.on in
    record {
      leads = leads_next _ _ _ (ap (λ (x : Bor (List ℕ)). x.now) c.steps.invariant.text) c.in-More.is c.steps.invariant.leads c.in_ok-next.ensures.leads;
      text = on.0 ∙ c.steps.invariant.text;
      on = (let step = on.1 in omega arith);
    }

pub read-returns-in-Done-clause-read : goal.read-returns-in-Done-clause-read
read-returns-in-Done-clause-read t c =
    leads_end (Done c.in-Done.end) c.in-Done.end.at
    (leads_next _ _ _ (ap (λ (x : Bor (List ℕ)). x.now) c.steps.invariant.text) c.in-Done.is c.steps.invariant.leads c.in_ok-next.ensures.leads) (λ o e. e)

pub read-returns-in-Done-clause-on : goal.read-returns-in-Done-clause-on
read-returns-in-Done-clause-on t c =
    let on = rw c.in-Done.is at c.in_ok-next.ensures.on in
    let start = c.steps.invariant.on in
    let step = on.1 in omega arith
