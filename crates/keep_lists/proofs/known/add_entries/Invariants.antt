use Rattle.std.proofs.Common.{◌≡◌, ◌||◌, List, ℕ, drop, map}
use Rattle.std.specs.List.{list_any}
use Rattle.std.specs.HashSet.{contains_text}
use Rattle.app_load.specs.Entries.{entry_of}
use Rattle.keep_lists.specs.Known.{names_entry}
use Rattle.keep_lists.proofs.known.add_entries.Given as goal

abbrev pub invariant-loop-entry : goal.invariant-loop-entry
invariant-loop-entry l = (t : List ℕ) → (list_any (names_entry t) (map entry_of (drop l.entry-index l.entries)) || contains_text l.texts t) ≡ (list_any (names_entry t) (map entry_of l.entries) || contains_text l.initial.texts t)
