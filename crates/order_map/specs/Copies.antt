-- Copies of entries.
use Rattle.std.specs.Prelude.{◌≡◌, Option, Some, None}
use Rattle.order_map.specs.declared.entry.Entry.{Entry}

-- a copy of a value, or none where there is none
abbrev pub IsValueCopy : {V : Type 0} → (V → V → Type 0) → Option V → Option V → Type 0
IsValueCopy copies None None = Unit {0}
IsValueCopy copies None (Some y) = ⊥
IsValueCopy copies (Some x) None = ⊥
IsValueCopy copies (Some x) (Some y) = copies x y

-- the same key, and a copy of the value
pub record IsEntryCopy {V : Type 0} (copies : V → V → Type 0) (old new : Entry V) : Type 0 where
  pub key : new.key ≡ old.key
  pub value : IsValueCopy copies old.value new.value
