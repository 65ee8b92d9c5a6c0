-- What a turnstile tells, and what its calls do to that.
use Rattle.std.specs.Prelude.{bit_or, ◌≡◌, ℕ, ◌+◌, ◌<◌, List, [], ◌∷◌, ◌++◌, length, slice_index, slice_set, Option, Some, None}
use mathlib.Core.Option.{some}
use lib.ListN.{get_elem?}
use Rattle.turn_store.specs.declared.view.Item.{Item}
use Rattle.turn_store.specs.declared.view.Item.TheVariants.{Failed, Completed}
use Rattle.turn_store.specs.declared.view.Hold.{Hold}
use Rattle.turn_store.specs.declared.take.Taken as out
use Rattle.turn_store.specs.declared.take.Take as answers
use Rattle.turn_store.specs.declared.take.Take.TheVariants.{Taken, Busy, Spent}
use Rattle.turn_store.specs.declared.store.SharedTurns.{SharedTurns}
use Rattle.turn_store.specs.Passes.{slot_count}
use Rattle.turn_store.specs.Items.{InHeld, without, entry_of}
use Rattle.turn_store.specs.Words.{taken_of, generation_of, change_of, pin_of}

-- a lane tells its store, its items and what it holds; a store that is used alone tells its words and values
pub data Told (V : Type 0) : Type 0 where
  lane : SharedTurns V → List (Item V) → List (Hold V) → Told V
  alone : List ℕ → List (Option V) → Told V

-- the word with its bit 0 set
abbrev pub marked : ℕ → ℕ
marked w = bit_or w 1

module _ {V : Type 0} where
  abbrev pub slots : Told V → ℕ
  slots (lane store items held) = slot_count store
  slots (alone words values) = length words

  -- the hold that was handed out
  abbrev pub hold_of : out.Taken V → Hold V
  hold_of t = record { slot = t.slot; number = t.number; change = t.change; pin = t.pin; value = t.before.value }

  -- ---- answers

  -- the slot was taken by a step that found this word
  pub record IsTakenAt (k word : ℕ) (t : out.Taken V) : Type 0 where
    pub free : taken_of word ≡ 0
    pub room : generation_of word < 4294967295
    pub slot : t.slot ≡ k
    pub number : t.number ≡ generation_of word
    pub change : t.change ≡ change_of word
    pub pin : t.pin ≡ pin_of word
    pub unchanged : t.before.value ≡ t.value

  -- the answer is by the word that was found
  abbrev pub Answers : ℕ → ℕ → answers.Take V → Type 0
  Answers k word (Taken t) = IsTakenAt k word t
  Answers k word (Busy w) = (w ≡ word) × (taken_of word ≡ 1) × (generation_of word < 4294967295)
  Answers k word (Spent w) = (w ≡ word) × (generation_of word ≡ 4294967295)

  -- ---- a lane

  -- the items afterwards: an acquire that failed is noted
  abbrev pub items_after : ℕ → answers.Take V → List (Item V) → List (Item V)
  items_after k (Taken t) items = items
  items_after k (Busy w) items = items ++ Failed k w ∷ []
  items_after k (Spent w) items = items ++ Failed k w ∷ []

  -- what is held afterwards
  abbrev pub held_after : answers.Take V → List (Hold V) → List (Hold V)
  held_after (Taken t) held = hold_of t ∷ held
  held_after _ held = held

  -- ---- a store that is used alone

  -- the value that stood home is handed out; no other value changes
  abbrev pub HandsOut : ℕ → answers.Take V → List (Option V) → List (Option V) → Type 0
  HandsOut k (Taken t) values values' = (get_elem? values k ≡ some (Some t.value)) × (values' ≡ slice_set values k None)
  HandsOut k _ values values' = values' ≡ values

  -- the slot's lock is taken in this generation, and its value is out
  pub record IsOut (words : List ℕ) (values : List (Option V)) (t : out.Taken V) : Type 0 where
    pub inside : t.slot < length words
    pub bit : taken_of (slice_index words t.slot) ≡ 1
    pub number : t.number ≡ generation_of (slice_index words t.slot)
    pub room : generation_of (slice_index words t.slot) < 4294967295
    pub empty : get_elem? values t.slot ≡ some None

  -- ---- both

  abbrev pub TellsTake : ℕ → Told V → answers.Take V → Told V → Type 0
  TellsTake k (lane store items held) r after = ((word : ℕ) × Answers k word r) × (after ≡ lane store (items_after k r items) (held_after r held))
  TellsTake k (alone words values) r after = Answers k (slice_index words k) r
      × ((values' : List (Option V)) × HandsOut k r values values' × (after ≡ alone (slice_set words k (marked (slice_index words k))) values'))

  -- the turnstile handed it out, and it has not come back
  abbrev pub MayGive : Told V → out.Taken V → Type 0
  MayGive (lane store items held) t = (t.slot < slot_count store) × InHeld (hold_of t) held
  MayGive (alone words values) t = IsOut words values t

  abbrev pub TellsGift : Told V → out.Taken V → Told V → Type 0
  TellsGift (lane store items held) t after = after ≡ lane store (items ++ Completed (entry_of (hold_of t) t.value) ∷ []) (without t.slot held)
  TellsGift (alone words values) t after = after ≡ alone (slice_set words t.slot (slice_index words t.slot + 1)) (slice_set values t.slot (Some t.value))
