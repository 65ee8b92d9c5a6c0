-- What clauses see of a store that is used alone, and how it is pinned.
use Rattle.std.specs.Prelude.{◌≡◌, ℕ, ◌+◌, List, slice_index, slice_set, Option}
use Rattle.turn_store.specs.declared.take.Pinned.{Pinned}
use Rattle.turn_store.specs.declared.take.Pinned.TheVariants.{Changed, ChangesSpent}
use Rattle.turn_store.specs.Words.{taken_of, generation_of, change_of, pin_of}
use Rattle.turn_store.specs.declared.alone.AloneTurns.{AloneTurns}
use Rattle.turn_store.specs.Told.{Told, alone}

module _ {V : Type 0} where
  abbrev pub words_of : AloneTurns V → List ℕ
  words_of t = t.words.items

  -- the values that stand home
  abbrev pub values_of : AloneTurns V → List (Option V)
  values_of t = t.values.items

  abbrev pub words_and_values : AloneTurns V → Told V
  words_and_values t = alone t.words.items t.values.items

-- the pin of a word is set, as one change
pub record HasPin (role old new : ℕ) : Type 0 where
  pub bit : taken_of new ≡ taken_of old
  pub generation : generation_of new ≡ generation_of old
  pub change : change_of new ≡ change_of old + 1
  pub pin : pin_of new ≡ role

-- the word of the slot k is pinned, and no other word changes
abbrev pub PinsAlone : ℕ → ℕ → List ℕ → List ℕ → Pinned → Type 0
PinsAlone k role words words' (Changed n) = (n ≡ change_of (slice_index words' k)) × ((y : ℕ) × HasPin role (slice_index words k) y × (words' ≡ slice_set words k y))
PinsAlone k role words words' ChangesSpent = (change_of (slice_index words k) ≡ 16777215) × (words' ≡ words)
