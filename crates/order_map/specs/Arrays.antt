-- Arrays: pairs of a key and a value in their order, and the next key.
use Rattle.std.specs.Prelude.{List, [], ◌∷◌, ℕ, ◌+◌, ◌≤◌, ◌≡◌, map, slice_get, Option, Some, None, option_map, IsTrue, if◌then◌else◌}
use Rattle.order_map.specs.declared.key.Key.{Key}
use Rattle.order_map.specs.declared.entry.Entry.{Entry}
use Rattle.order_map.specs.declared.place.Place.{Place}
use Rattle.order_map.specs.Keys.{same_key, all_distinct, all_below, spent}
use Rattle.order_map.specs.MapView.{MapView}

-- the pairs of entries slot by slot
abbrev pub with_pair : {V : Type 0} → Key → Option V → List (Key × V) → List (Key × V)
with_pair key None ps = ps
with_pair key (Some v) ps = (key, v) ∷ ps

abbrev pub pairs_in : {V : Type 0} → List (Entry V) → List (Key × V)
pairs_in [] = []
pairs_in (e ∷ es) = with_pair e.key e.value (pairs_in es)

-- the slots that hold a pair, counted from i
abbrev pub with_slot : {V : Type 0} → ℕ → Option V → List ℕ → List ℕ
with_slot i None slots = slots
with_slot i (Some v) slots = i ∷ slots

abbrev pub full_slots : {V : Type 0} → ℕ → List (Entry V) → List ℕ
full_slots i [] = []
full_slots i (e ∷ es) = with_slot i e.value (full_slots (i + 1) es)

abbrev pub place_at : ℕ → Place
place_at i = record { at = i }

-- the pairs of an array in their order
unfoldable pub pairs_of : {V : Type 0} → MapView V → List (Key × V)
pairs_of m = pairs_in m.entries

-- its next key, a number, or `spent`
unfoldable pub next_of : {V : Type 0} → MapView V → ℕ
next_of m = m.next

-- the place of the i-th pair, counted from 0, and none behind the last one
unfoldable pub place_of : {V : Type 0} → MapView V → ℕ → Option Place
place_of m i = option_map place_at (slice_get (full_slots 0 m.entries) i)

-- a place of one of the array's pairs
pub record IsPlace {V : Type 0} (m : MapView V) (place : Place) : Type 0 where
  pub number : ℕ
  pub is : place_of m number ≡ Some place

-- the keys of pairs in their order
abbrev pub keys_of : {V : Type 0} → List (Key × V) → List Key
keys_of ps = map (λ p. p.0) ps

-- what is true of every array
pub record IsArray {V : Type 0} (pairs : List (Key × V)) (next : ℕ) : Type 0 where
  pub distinct : IsTrue (all_distinct (keys_of pairs))
  pub below : IsTrue (all_below next (keys_of pairs))
  pub within : next ≤ spent

-- the same pairs in the same order, and the same next key
pub record IsSameArray {V : Type 0} (old new : MapView V) : Type 0 where
  pub pairs : pairs_of new ≡ pairs_of old
  pub next : next_of new ≡ next_of old

-- the value of a key
abbrev pub look : {V : Type 0} → Key → List (Key × V) → Option V
look key [] = None
look key (p ∷ ps) = if same_key p.0 key then Some p.1 else look key ps

-- the value of a key is set, in its place or at the end
abbrev pub put : {V : Type 0} → Key → V → List (Key × V) → List (Key × V)
put key value [] = (key, value) ∷ []
put key value (p ∷ ps) = if same_key p.0 key then (p.0, value) ∷ ps else p ∷ put key value ps

-- the pairs without that of a key
abbrev pub without : {V : Type 0} → Key → List (Key × V) → List (Key × V)
without key [] = []
without key (p ∷ ps) = if same_key p.0 key then ps else p ∷ without key ps

-- the same keys in the same order, and each value a copy of the other's
abbrev pub AreCopies : {V : Type 0} → (V → V → Type 0) → List (Key × V) → List (Key × V) → Type 0
AreCopies copies [] [] = Unit {0}
AreCopies copies [] (q ∷ qs) = ⊥
AreCopies copies (p ∷ ps) [] = ⊥
AreCopies copies (p ∷ ps) (q ∷ qs) = (q.0 ≡ p.0) × copies p.1 q.1 × AreCopies copies ps qs

-- an array with the same keys in the same order, copies of the values, and the same next key
pub record IsCopy {V : Type 0} (copies : V → V → Type 0) (old new : MapView V) : Type 0 where
  pub pairs : AreCopies copies (pairs_of old) (pairs_of new)
  pub next : next_of new ≡ next_of old
