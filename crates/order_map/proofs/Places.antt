-- What callers need of places and of pairs, in words that do not change with the form of the map.
use Rattle.std.proofs.Common.{arith, ◌≡◌, ℕ, zero, suc, List, [], ◌∷◌, ◌<◌, ◌≤◌, map, refl, ap, Option, Some, None, option_map, slice_get, length}
use mathlib.Core.Former.{this}
use Rattle.order_map.specs.declared.key.Key.{Key}
use Rattle.order_map.specs.declared.entry.Entry.{Entry}
use Rattle.order_map.specs.declared.place.Place.{Place}
use Rattle.order_map.specs.MapView.{MapView, maybe, on_entry, mapped}
use Rattle.order_map.specs.Arrays.{with_pair, pairs_in, pairs_of, next_of, full_slots, place_at, place_of}
use Rattle.order_map.proofs.Lists.{get-past}
use Rattle.order_map.proofs.Entries.{full-long}

slot_there : (xs : List ℕ) (i : ℕ) → i < length xs → (x : ℕ) × (slice_get xs i ≡ Some x)
slot_there [] i h = absurd (omega arith)
slot_there (x ∷ xs) zero h = (x, refl)
slot_there (x ∷ xs) (suc i) h = slot_there xs i (omega arith)

module _ {V : Type 0} where
  -- a number below the count of pairs has a place
  pub place-some : (m : MapView V) (i : ℕ) → i < length (pairs_of m) → (place : Place) × (place_of m i ≡ Some place)
  unfolding place_of pairs_of
  place-some m i h =
      let e = full-long 0 m.entries in
      let t = slot_there (full_slots 0 m.entries) i (omega arith) in
      (place_at t.0, ap (option_map place_at) t.1)

  -- a number past the last pair has none
  pub place-none : (m : MapView V) (i : ℕ) → length (pairs_of m) ≤ i → place_of m i ≡ None
  unfolding place_of pairs_of
  place-none m i h = let e = full-long 0 m.entries in ap (option_map place_at) (get-past (full_slots 0 m.entries) i (omega arith))

module _ {V W : Type 0} (f : V → W) where
  mapped_step : (k : Key) (o : Option V) (ps : List (Key × V)) (qs : List (Key × W)) → qs ≡ map (λ p. (p.0, f p.1)) ps → with_pair k ((maybe this).map V W f o) qs ≡ map (λ p. (p.0, f p.1)) (with_pair k o ps)
  mapped_step k None ps qs e = e
  mapped_step k (Some v) ps qs e = ap (λ l. (k, f v) ∷ l) e

  pairs-mapped : (es : List (Entry V)) → pairs_in (map (on_entry f) es) ≡ map (λ p. (p.0, f p.1)) (pairs_in es)
  pairs-mapped [] = refl
  pairs-mapped (e ∷ es) = mapped_step e.key e.value (pairs_in es) (pairs_in (map (on_entry f) es)) (pairs-mapped es)

-- the pairs and the next key of a map whose values were taken to others
pub pairs_of-mapped : {V W : Type 0} (f : V → W) (m : MapView V) → pairs_of (mapped f m) ≡ map (λ p. (p.0, f p.1)) (pairs_of m)
unfolding pairs_of
pairs_of-mapped f m = pairs-mapped f m.entries

pub next_of-mapped : {V W : Type 0} (f : V → W) (m : MapView V) → next_of (mapped f m) ≡ next_of m
unfolding next_of
next_of-mapped f m = refl
