-- Entries without their ordinals.
use Rattle.std.specs.Prelude.{ℕ}
use Rattle.app_load.specs.Entries.{Entry}

abbrev pub entry_in : Entry × ℕ → Entry
entry_in pair = pair.0
