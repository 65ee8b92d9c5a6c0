use Rattle.removal_reports.specs.Fields.{told_removal}
use Rattle.removal_reports.proofs.reader.read_line.Goals as goal
use Rattle.removal_reports.proofs.Lines.{not_seven, no_fields, fields_make_line}
use Rattle.std.proofs.Common.{sym, ◌∙◌}

pub returns-in_default-cut_fields : goal.returns-in_default-cut_fields
returns-in_default-cut_fields c = not_seven c.args.line.now c.in-Some.text.now c.in-Some.ensures c.in_default-cut_fields.ensures

pub returns-in_default-read_fields : goal.returns-in_default-read_fields
returns-in_default-read_fields c = no_fields c.args.line.now c.in-Some.text.now c.in-Some.ensures
    (λ r are. c.in_default-read_fields.ensures r (record { forms = are.forms; texts = sym c.in-Some-cut_fields.ensures ∙ are.texts }))

pub returns : goal.returns
returns c = fields_make_line (told_removal c.in-Some-read_fields.told) c.args.line.now c.in-Some.text.now c.in-Some.ensures
    (record { forms = c.in-Some-read_fields.ensures.forms; texts = c.in-Some-cut_fields.ensures ∙ c.in-Some-read_fields.ensures.texts })
