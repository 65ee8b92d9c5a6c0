use Rattle.std.proofs.Common.{◌≡◌, ◌≤◌, ℕ, List, take}
use Rattle.std.specs.Str.Parse.{digits_value}
use Rattle.request_map.proofs.checks.length_within.Given as goal

pub record Read (value most : ℕ) (text : List ℕ) : Type 0 where
  pub reads : value ≡ digits_value 10 text
  pub within : value ≤ most

abbrev pub invariant-loop-byte : goal.invariant-loop-byte
invariant-loop-byte l = Read l.size 1048576 (take l.byte-index l.digits)
