-- The draws of ids, and ids in memory as a value.
use Rattle.std.specs.Prelude.{◌≡◌, ℕ, ◌+◌, ◌-◌, ◌^◌, ◌<◌, ◌⊎◌, min, Bool, List, if◌then◌else◌}
use Rattle.less_outside.specs.Told.{next, is_listed}

-- a later draw is greater, or the last of its type
abbrev pub IsLaterDraw : ℕ → ℕ → Type 0
IsLaterDraw old new = (old < new) ⊎ (new ≡ 2 ^ 128 - 1)

pub record IdsState : Type 0 where
  -- the next draw
  pub draw : ℕ
  -- the numbers of the calls that fail
  pub failing : List ℕ
  -- how many calls there were
  pub calls : ℕ
  -- how many of them failed
  pub faults : ℕ

-- the ids before their first call: the draws are 1, 2, ..
abbrev pub new_ids : List ℕ → IdsState
new_ids failing = record { draw = 1; failing = failing; calls = 0; faults = 0 }

-- the next call fails
abbrev pub fails_next : IdsState → Bool
fails_next ids = is_listed ids.failing ids.calls

-- the ids after a call: one that fails gives no number away
abbrev pub after_draw : IdsState → IdsState
after_draw ids =
    if fails_next ids
    then record ids { calls = next ids.calls; faults = next ids.faults }
    else record ids { calls = next ids.calls; draw = min (ids.draw + 1) (2 ^ 128 - 1) }
