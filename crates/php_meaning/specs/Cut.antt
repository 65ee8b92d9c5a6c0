-- A trace up to the first entry that is not kept.
use Rattle.std.specs.Prelude.{List, [], ◌∷◌, Bool, if◌then◌else◌}
use Rattle.app_load.specs.Entries.{Entry}
use Rattle.php_meaning.specs.Events.{Event, Tick, Enter, Out, Stop, Removed}

-- the events before the first entry that is not kept, and there the end "removed"; all of them where there is none
abbrev pub cut : (Entry → Bool) → List Event → List Event
cut kept [] = []
cut kept (Tick ∷ events) = Tick ∷ cut kept events
cut kept (Enter entry ∷ events) = if kept entry then Enter entry ∷ cut kept events else Stop (Removed entry) ∷ []
cut kept (Out bytes ∷ events) = Out bytes ∷ cut kept events
cut kept (Stop end ∷ events) = Stop end ∷ cut kept events
