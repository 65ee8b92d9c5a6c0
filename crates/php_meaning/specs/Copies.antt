-- What the parts of a copy have to do with those of its original, and kept sets within others.
use Rattle.std.specs.Prelude.{◌≡◌, Bool, true}
use Rattle.app_load.specs.Entries.{Entry}
pub use Rattle.app_load.specs.CopyParts.{IsGone, IsThere, AreThere, AreCopyParts}

-- a kept set within another
abbrev pub IsWithin : (Entry → Bool) → (Entry → Bool) → Type 0
IsWithin keeps more = (e : Entry) → keeps e ≡ true → more e ≡ true
