use Rattle.std.proofs.Common.{rules}
use Rattle.removal_reports.specs.Fields.{named_entry}
use Rattle.removal_reports.proofs.reader.read_fields.Goals as goal
use Rattle.removal_reports.proofs.Readings.{no_moment, no_slot, are_fields}
use Rattle.std.proofs.Common.{sym, ◌∙◌}

pub returns-in_default : goal.returns-in_default
returns-in_default c = no_moment _ _ _ _ _ _ _ (sym c.read_decimal.ensures ∙ c.in_default.is)

pub returns-in_default-read_slot : goal.returns-in_default-read_slot
returns-in_default-read_slot c = no_slot _ _ _ _ _ _ _ (sym c.read_slot.ensures ∙ c.in_default-read_slot.is)

pub returns : goal.returns
returns c = are_fields _ _ _ _ _ _ _ c.in-Some.moment c.in-Some-read_slot.slot c.in-Some-read_role.role.now (named_entry c.in-Some-read_entry.entry) (search rules) (sym c.read_decimal.ensures ∙ c.in-Some.is) c.in-Some-read_role.ensures.0 c.in-Some-read_role.ensures.1 (sym c.read_slot.ensures ∙ c.in-Some-read_slot.is) c.in-Some-read_entry.ensures
