-- A clock over the system.
use Rattle.std.specs.Prelude.{◌≡◌, ℕ}
use Rattle.less_outside.specs.declared.clock_real.ClockReal.{ClockReal}

-- how often a call has failed
abbrev pub faults_of : {R : Type 0} → ClockReal R → ℕ
faults_of clock = clock.faults

-- it has this runtime, and nothing has failed
pub record IsNewClockReal {R : Type 0} (clock : ClockReal R) (runtime : R) : Type 0 where
  pub over : clock.rt ≡ runtime
  pub fresh : clock.faults ≡ 0
