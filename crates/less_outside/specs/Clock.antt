-- A clock in memory as a value.
use Rattle.std.specs.Prelude.{ℕ, Bool, List, if◌then◌else◌}
use Rattle.less_outside.specs.Told.{next, is_listed}

pub record ClockState : Type 0 where
  -- the moment that its calls give
  pub moment : ℕ
  -- the numbers of the calls that fail
  pub failing : List ℕ
  -- how many calls there were
  pub calls : ℕ
  -- how many of them failed
  pub faults : ℕ

-- the clock before its first call
abbrev pub new_clock : ℕ → List ℕ → ClockState
new_clock moment failing = record { moment = moment; failing = failing; calls = 0; faults = 0 }

-- the next call fails
abbrev pub fails_next : ClockState → Bool
fails_next clock = is_listed clock.failing clock.calls

-- the clock after a call
abbrev pub after_now : ClockState → ClockState
after_now clock = if fails_next clock then record clock { calls = next clock.calls; faults = next clock.faults } else record clock { calls = next clock.calls }
