-- What the code holds of a line: its seven fields, and what they tell.
use Rattle.std.specs.Prelude.{ℕ, List, [], ◌∷◌}
use Rattle.app_load.specs.Entries.{Entry, file, function}
use Rattle.removal_reports.specs.LogLines.{Removal}
use Rattle.removal_reports.specs.declared.fields.Fields.{Fields}
use Rattle.removal_reports.specs.declared.reader.NamedEntry.{NamedEntry}
use Rattle.removal_reports.specs.declared.reader.NamedEntry.TheVariants as n
use Rattle.removal_reports.specs.declared.reader.Told.{Told}

abbrev pub fields_list : Fields → List (List ℕ)
fields_list f = f.word.now ∷ f.moment.now ∷ f.role.now ∷ f.slot.now ∷ f.kind.now ∷ f.path.now ∷ f.name.now ∷ []

-- an entry as it stands in a line
abbrev pub named_entry : NamedEntry → Entry
named_entry (n.File path) = file path.now
named_entry (n.Function path name) = function path.now name.now

abbrev pub told_removal : Told → Removal
told_removal t = record { moment = t.moment; role = t.role.now; slot = t.slot; entry = named_entry t.entry }
