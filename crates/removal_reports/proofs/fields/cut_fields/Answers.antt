use Rattle.std.proofs.Common.{length, ℕ, ◌<◌, List}
use Rattle.removal_reports.specs.LogLines.{is_tab, fields_in}
use Rattle.removal_reports.proofs.fields.cut_fields.Goals as goal
use Rattle.std.proofs.Common.{arith, ap}
use Rattle.std.proofs.lemmas.List.Splits.{length-slice_split}
use Rattle.removal_reports.specs.LogLines.{is_tab}

cut_has : (text : List ℕ) → 0 < length (fields_in text)
cut_has text = omega (arith, length-slice_split is_tab text)

pub returns-in-Some-cut-6 : goal.returns-in-Some-cut-6
returns-in-Some-cut-6 c e = omega (arith, ap length c.in-Some.ensures, ap length c.in-Some-cut.ensures, ap length c.in-Some-cut-2.ensures, ap length c.in-Some-cut-3.ensures, ap length c.in-Some-cut-4.ensures, ap length c.in-Some-cut-5.ensures, ap length c.in-Some-cut-6.ensures, cut_has c.in-Some-cut-6.field-0.1.now, e)
