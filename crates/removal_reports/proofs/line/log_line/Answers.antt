use Rattle.std.proofs.Common.{◌∷◌, [], ◌++◌}
use Rattle.std.specs.Fmt.{decimal}
use Rattle.app_load.specs.Entries.{entry_of}
use Rattle.removal_reports.specs.LogLines as spec
use Rattle.removal_reports.specs.LogLines.{line_of}
use Rattle.removal_reports.proofs.line.log_line.Goals as goal
use Rattle.std.proofs.Common.{ap, ◌∙◌}
use Rattle.removal_reports.proofs.Lines.{assembled}

pub returns : goal.returns
returns c =
    let whole = assembled (decimal c.args.moment) c.args.role.now (decimal c.args.slot) (spec.kind_text (entry_of c.args.entry.now)) (spec.path_text (entry_of c.args.entry.now)) (spec.name_text (entry_of c.args.entry.now)) in
    c.in_ok-push-2.ensures.items
    ∙ ap (λ t. t ++ 10 ∷ []) (c.in_ok-push_entry.ensures
    ∙ ap (λ t. t ++ (9 ∷ spec.kind_text (entry_of c.args.entry.now)) ++ (9 ∷ spec.path_text (entry_of c.args.entry.now)) ++ (9 ∷ spec.name_text (entry_of c.args.entry.now))) (c.in_ok-push_number-2.ensures
    ∙ ap (λ t. t ++ decimal c.args.slot) (c.in_ok-push.ensures.items
    ∙ ap (λ t. t ++ 9 ∷ []) (c.in_ok-push_field.ensures
    ∙ ap (λ t. c.push_number.new.line.items ++ 9 ∷ t) c.as_bytes.ensures.value
    ∙ ap (λ t. t ++ 9 ∷ c.args.role.now) (c.in_ok-push_number.ensures
    ∙ ap (λ t. t ++ decimal c.args.moment) c.in_ok-line.ensures.items)))))
    ∙ whole
