-- What the calls of a folder answer.
use Rattle.std.specs.Prelude.{◌≡◌, ℕ, ◌≤◌, ◌<◌, ⊤, List, length, Option, None, Some, IsSomeAnd, Result, IsErrOf}
use Rattle.less_terms.specs.Causes.{Rose, Steady}
use Rattle.less_outside.specs.declared.fault.FolderFault.{FolderFault}
use Rattle.less_outside.specs.declared.fault.FolderFault.TheVariants.{Failed}
use Rattle.less_outside.specs.declared.folder.Found.{Found}
use Rattle.less_outside.specs.declared.folder.Found.TheVariants.{Absent, TooLong, Bytes}

-- what a read finds of a path that has these bytes, or none, where it may give at most `max`
abbrev pub IsFound : Option (List ℕ) → ℕ → Found → Type 0
IsFound there max Absent = there ≡ None
IsFound there max TooLong = IsSomeAnd there (λ bytes. max < length bytes)
IsFound there max (Bytes bytes) = (there ≡ Some bytes.items) × (length bytes.items ≤ max)

-- a read gives at most `max` bytes
abbrev pub IsWithin : ℕ → Found → Type 0
IsWithin max Absent = ⊤
IsWithin max TooLong = ⊤
IsWithin max (Bytes bytes) = length bytes.items ≤ max

-- the count has not fallen, and `Failed` comes only where it rose
pub record HasFolderCause {T : Type 0} (before now : ℕ) (result : Result T FolderFault) : Type 0 where
  pub later : Steady before now
  pub failed : IsErrOf result Failed → Rose before now
