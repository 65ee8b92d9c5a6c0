-- What a call does to something that an object of the outside may tell, and to its counts.
use Rattle.std.specs.Prelude.{◌≡◌, ℕ, ◌+◌, ◌-◌, ◌^◌, ◌==◌, min, Bool, true, false, List, Option, None, Some, ⊤}
use Rattle.std.specs.List.{list_any}

-- what was told before and what is told after stand in the relation; what was told stays told
abbrev pub Changes : {A : Type 0} → Option A → Option A → (A → A → Type 0) → Type 0
Changes None new change = ⊤
Changes (Some old) None change = ⊥
Changes (Some old) (Some new) change = change old new

-- what was told is told unchanged
abbrev pub Stays : {A : Type 0} → Option A → Option A → Type 0
Stays old new = Changes old new (λ before after. after ≡ before)

-- one more, up to the greatest number of a count
abbrev pub next : ℕ → ℕ
next count = min (count + 1) (2 ^ 64 - 1)

-- one more where the call failed
abbrev pub next_on : Bool → ℕ → ℕ
next_on true count = next count
next_on false count = count

-- the number of a call is one of those that fail
abbrev pub is_listed : List ℕ → ℕ → Bool
is_listed failing call = list_any (λ number. number == call) failing
