-- A sink in memory as a value, and what a write makes of it.
use Rattle.std.specs.Prelude.{ℕ, ◌+◌, Bool, ◌||◌, ◌==◌, nat_lt, List, [], ◌++◌, length, if◌then◌else◌}
use Rattle.std.specs.List.{list_any}
use Rattle.less_outside.specs.Told.{next}

pub record SinkState : Type 0 where
  -- the bytes that were taken, in order
  pub taken : List ℕ
  -- the greatest count of bytes that it takes
  pub room : ℕ
  -- the numbers of the calls that fail
  pub failing : List ℕ
  -- how many calls there were
  pub calls : ℕ
  -- how many of them failed
  pub faults : ℕ

-- the sink before its first call
abbrev pub new_sink : ℕ → List ℕ → SinkState
new_sink room failing = record { taken = []; room = room; failing = failing; calls = 0; faults = 0 }

-- this write fails: its number is listed, or it would pass the room
abbrev pub refuses : SinkState → List ℕ → Bool
refuses sink bytes = list_any (λ call. call == sink.calls) sink.failing || nat_lt sink.room (length sink.taken + length bytes)

-- the sink after a write: one that fails takes nothing
abbrev pub after_write : SinkState → List ℕ → SinkState
after_write sink bytes =
    if refuses sink bytes
    then record sink { calls = next sink.calls; faults = next sink.faults }
    else record sink { taken = sink.taken ++ bytes; calls = next sink.calls }
