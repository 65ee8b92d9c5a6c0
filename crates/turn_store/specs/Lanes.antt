-- What a lane tells.
use Rattle.turn_store.specs.declared.lane.Lane.{Lane}
use Rattle.turn_store.specs.Passes.{items_of, held_by}
use Rattle.turn_store.specs.Told.{Told, lane}

abbrev pub told_by : {V : Type 0} → Lane V → Told V
told_by l = lane l.store.now (items_of l.pass) (held_by l.pass)
