-- The index of an array: buckets, each of which leads to the newest slot whose key falls into it, and each slot to the next older one.
use Rattle.std.specs.Prelude.{List, [], ◌∷◌, ℕ, zero, suc, ◌<◌, ◌≤◌, ◌≡◌, Bool, false, ◌==◌, ◌&&◌, length, slice_get, Option, Some, None, is_some, if◌then◌else◌}
use Rattle.order_map.specs.declared.key.Key.{Key}
use Rattle.order_map.specs.declared.entry.Entry.{Entry}
use Rattle.order_map.specs.Keys.{same_key}
use Rattle.order_map.specs.Hashes.{bucket_of}

-- whether a slot's key falls into a bucket
abbrev pub falls_into : ℕ → ℕ → Option Key → Bool
falls_into count b None = false
falls_into count b (Some key) = bucket_of count key == b

-- 1 and the newest slot below a bound whose key falls into a bucket, or 0
abbrev pub newest : ℕ → ℕ → List Key → ℕ → ℕ
newest count b keys zero = 0
newest count b keys (suc i) = if falls_into count b (slice_get keys i) then suc i else newest count b keys i

-- each of some buckets leads to its newest slot below a bound, each slot below it to the next older one of its bucket
pub record IsLinked (count : ℕ) (heads links : List ℕ) (keys : List Key) (bound : ℕ) : Type 0 where
  pub room : bound ≤ length links
  pub heads_lead : (b : ℕ) → b < count → slice_get heads b ≡ Some (newest count b keys bound)
  pub links_lead : (i : ℕ) (key : Key) → i < bound → slice_get keys i ≡ Some key → slice_get links i ≡ Some (newest count (bucket_of count key) keys i)

-- where there are buckets, they and the slots lead to all slots
abbrev pub IsIndex : List ℕ → List ℕ → List Key → Type 0
IsIndex heads links keys = 0 < length heads → IsLinked (length heads) heads links keys (length keys)

-- the keys of entries slot by slot
abbrev pub slots_of : {V : Type 0} → List (Entry V) → List Key
slots_of [] = []
slots_of (e ∷ es) = e.key ∷ slots_of es

-- whether a slot holds a key's pair
abbrev pub holds : {V : Type 0} → Key → Option (Entry V) → Bool
holds key None = false
holds key (Some e) = is_some e.value && same_key e.key key

-- how many pairs it holds
abbrev pub held : {V : Type 0} → Option V → ℕ
held None = 0
held (Some v) = 1
