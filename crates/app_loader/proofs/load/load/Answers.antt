use Rattle.std.proofs.Common.{◌≡◌, map, ap, ◌∙◌, true, false, nat_lt, Some, None, sym}
use Rattle.std.proofs.lemmas.Result.{err_from_is_err_and}
use Rattle.app_load.specs.Files.{files_of}
use Rattle.app_load.specs.Applications.{text_of, first_limit, functions_of_all}
use Rattle.app_loader.proofs.Totals.{limit_refused, files_refused, too_many_refused, all_accepted, all_whole}
use Rattle.app_loader.proofs.load.load.Goals as goal

pub returns-in-Some-clause-fault : goal.returns-in-Some-clause-fault
returns-in-Some-clause-fault g c =
    let sorted = c.put_in_order.new.files.items in
    let there = ap (λ xs. first_limit (map text_of xs)) c.deref.ensures.value in
    let first : Some c.in-Some.limit ≡ first_limit (map text_of sorted) = cc in
    limit_refused c.args.setting c.args.files.items sorted c.in-Some.limit c.new.result c.put_in_order.ensures first c.new.ensures.bytes

pub returns-in_err-judged-clause-fault : goal.returns-in_err-judged-clause-fault
returns-in_err-judged-clause-fault g c =
    let sorted = c.put_in_order.new.files.items in
    let there = ap (λ xs. first_limit (map text_of xs)) c.deref.ensures.value in
    let none : None ≡ first_limit (map text_of sorted) = cc in
    let p = err_from_is_err_and c.from_residual.result c.from_residual.ensures.1 in
    rw (p.1, p.2) (files_refused c.args.setting c.args.files.items sorted c.in_err-judged.field-0.0 c.put_in_order.ensures none c.in_err-judged.ensures.fault)

pub returns-then-passes_functions-clause-fault : goal.returns-then-passes_functions-clause-fault
returns-then-passes_functions-clause-fault g c =
    let sorted = c.put_in_order.new.files.items in
    let judged = c.in_ok-judged.judged.items in
    let there = ap (λ xs. first_limit (map text_of xs)) c.deref.ensures.value in
    let none : None ≡ first_limit (map text_of sorted) = cc in
    let counts = ap (λ fs. nat_lt 20000 (functions_of_all (files_of fs))) c.deref-2.ensures.value in
    let many : true ≡ nat_lt 20000 (functions_of_all (files_of judged)) = sym c.if-passes_functions.true ∙ (c.passes_functions.ensures ∙ counts) in
    too_many_refused c.args.setting c.args.files.items sorted judged c.new-then-passes_functions.result c.put_in_order.ensures none c.in_ok-judged.ensures.files many c.new-then-passes_functions.ensures.bytes

pub new-requires-2 : goal.new-requires-2
new-requires-2 g c =
    all_whole c.args.setting c.args.files.items c.put_in_order.new.files.items c.in_ok-judged.judged.items c.put_in_order.ensures c.in_ok-judged.ensures.files c.in_ok-judged.ensures.whole

pub returns-clause-files : goal.returns-clause-files
returns-clause-files g c =
    let sorted = c.put_in_order.new.files.items in
    let judged = c.in_ok-judged.judged.items in
    let there = ap (λ xs. first_limit (map text_of xs)) c.deref.ensures.value in
    let none : None ≡ first_limit (map text_of sorted) = cc in
    let counts = ap (λ fs. nat_lt 20000 (functions_of_all (files_of fs))) c.deref-2.ensures.value in
    let few : false ≡ nat_lt 20000 (functions_of_all (files_of judged)) = sym c.if-passes_functions.false ∙ (c.passes_functions.ensures ∙ counts) in
    rw c.new-2.ensures (all_accepted c.args.setting c.args.files.items sorted judged c.put_in_order.ensures none c.in_ok-judged.ensures.files few)
