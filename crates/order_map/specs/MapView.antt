-- What the model of an array holds: its entries slot by slot, where a removed one has no value, and the next key.
use Rattle.std.specs.Prelude.{List, ℕ, ◌≡◌, Option, Some, None, map}
use mathlib.Core.Path.{refl}
use mathlib.Core.Logic.{◌⊎◌, inl, inr}
use mathlib.Core.Former.{Former, this, const, pair, or, via}
use Rattle.order_map.specs.declared.key.Key.{Key}
use Rattle.order_map.specs.declared.entry.Entry.{Entry}

pub record MapView (V : Type 0) : Type 0 where
  pub entries : List (Entry V)
  pub next : ℕ

abbrev pub map_view : {V : Type 0} → List (Entry V) → ℕ → MapView V
map_view es n = record { entries = es; next = n }

abbrev pub entry : {V : Type 0} → Key → Option V → Entry V
entry k o = record { key = k; value = o }

-- ---- values taken to others

module _ {X : Type 0} where
  abbrev pub split : Option X → Unit {0} ⊎ X
  split None = inl tt
  split (Some x) = inr x

  abbrev pub join : Unit {0} ⊎ X → Option X
  join (inl u) = None
  join (inr x) = Some x

  pub join-split : (o : Option X) → join (split o) ≡ o
  join-split None = refl
  join-split (Some x) = refl

  pub split-join : (o : Unit {0} ⊎ X) → split (join o) ≡ o
  split-join (inl u) = refl
  split-join (inr x) = refl

-- a value that may be missing, and an entry, as types that hold others
abbrev pub maybe : Former {0} → Former {0}
maybe g = via (or (const (Unit {0})) g) (λ X. Option (g.Of X)) (λ X. split) (λ X. join) (λ X. join-split) (λ X. split-join)

abbrev pub slot : Former {0} → Former {0}
slot g = via (pair (const Key) (maybe g)) (λ X. Entry (g.Of X)) (λ X e. (e.key, e.value)) (λ X v. entry v.0 v.1) (λ X e. refl) (λ X v. refl)

abbrev pub on_entry : {V W : Type 0} → (V → W) → Entry V → Entry W
on_entry {V} {W} f = (slot this).map V W f

-- the same with each value taken to another
abbrev pub mapped : {V W : Type 0} → (V → W) → MapView V → MapView W
mapped f m = map_view (map (on_entry f) m.entries) m.next
