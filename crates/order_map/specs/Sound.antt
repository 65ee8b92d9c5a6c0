-- What is true of every array's parts.
use Rattle.std.specs.Prelude.{List, [], ℕ, ◌≡◌, ◌≤◌, length, IsTrue}
use Rattle.order_map.specs.declared.key.Key.{Key}
use Rattle.order_map.specs.Keys.{all_distinct, all_below, spent}
use Rattle.order_map.specs.Chains.{IsIndex}

-- the keys of all slots, those of the pairs, and those of the pairs in the slots that a walk passes over at the front
pub record IsSound (slots keys front : List Key) (count next : ℕ) (heads links : List ℕ) : Type 0 where
  pub distinct : IsTrue (all_distinct keys)
  pub below : IsTrue (all_below next keys)
  pub within : next ≤ spent
  pub counted : count ≡ length keys
  pub passed : front ≡ []
  pub indexed : IsIndex heads links slots
