-- When a fault of the outside may be answered: each outside object counts its faults, and an error comes only where the count rose.
use Rattle.std.specs.Prelude.{ℕ, ◌+◌, ◌-◌, ◌^◌, ◌≤◌, min, Result, OnErr}

-- the count is higher than before, or stands at the end of its type
abbrev pub Rose : ℕ → ℕ → Type 0
Rose before now = min (before + 1) (2 ^ 64 - 1) ≤ now

-- the count has not fallen
abbrev pub Steady : ℕ → ℕ → Type 0
Steady before now = before ≤ now

-- the count has not fallen, and an error comes only where it rose
pub record HasCause {T E : Type 0} (before now : ℕ) (result : Result T E) : Type 0 where
  pub later : Steady before now
  pub failed : OnErr result (Rose before now)
