-- What a pass and the administrator know of a store at its end: the entries are of one legal history of each slot.
use Rattle.std.specs.Prelude.{◌≡◌, ◌⊎◌, ℕ, ◌+◌, ◌<◌, ◌≤◌, List, length, slice_index, Option, Some}
use mathlib.Core.Option.{some}
use lib.ListN.{get_elem?}
use Rattle.turn_store.specs.declared.view.Entry.{Entry}
use Rattle.turn_store.specs.declared.view.Item.{Item}
use Rattle.turn_store.specs.declared.view.Change.{Change}
use Rattle.turn_store.specs.Words.{taken_of, generation_of, change_of, pin_of}
use Rattle.turn_store.specs.Items.{InItems, count_items, roles_of, role_at, last_role}

module _ {V : Type 0} where
  -- the value that stands home at the end is the one that the last entry left, or the opening value where there was none
  pub record IsLast (first : ℕ) (values : List V) (items : List (Item V)) (word k : ℕ) (left : List (Option V)) : Type 0 where
    pub value : V
    pub is_home : get_elem? left k ≡ some (Some value)
    pub untouched : generation_of word ≡ first → get_elem? values k ≡ some value
    pub last : (e : Entry V) → InItems e items → e.slot ≡ k → e.number + 1 ≡ generation_of word → value ≡ e.after

  -- the entries of a pass, under the closing words and values of a store that began with these values and this generation
  pub record LegalHistory (first : ℕ) (values : List V) (items : List (Item V)) (changes : List Change) (words : List ℕ) (left : List (Option V)) : Type 0 where
    pub wide : length words ≡ length left
    pub inside : (e : Entry V) → InItems e items → e.slot < length words
    -- numbers go from the first generation to the word's less one, and each stands at most once
    pub numbered : (e : Entry V) → InItems e items → (first ≤ e.number) × (e.number < generation_of (slice_index words e.slot))
    pub distinct : (k n : ℕ) → count_items k n items ≤ 1
    pub grows : (k : ℕ) → k < length words → first ≤ generation_of (slice_index words k)
    -- the first entry begins with the opening value, and each other with what the one before left
    pub begins : (e : Entry V) → InItems e items → e.number ≡ first → get_elem? values e.slot ≡ some e.before
    pub follows : (e f : Entry V) → InItems e items → InItems f items → f.slot ≡ e.slot → f.number ≡ e.number + 1 → f.before ≡ e.after
    -- change numbers do not fall, and pins are those that the administrator set
    pub rises : (e f : Entry V) → InItems e items → InItems f items → f.slot ≡ e.slot → e.number ≤ f.number → e.change ≤ f.change
    pub pins : (e : Entry V) → InItems e items → (e.change ≤ length (roles_of e.slot changes)) × (e.pin ≡ role_at (roles_of e.slot changes) e.change)
    pub words_pinned : (k : ℕ) → k < length words → (change_of (slice_index words k) ≡ length (roles_of k changes)) × (pin_of (slice_index words k) ≡ last_role (roles_of k changes))
    -- where the lock is not taken, or is exhausted, the last value is home
    pub lasts : (k : ℕ) → k < length words → (taken_of (slice_index words k) ≡ 0) ⊎ (generation_of (slice_index words k) ≡ 4294967295) → IsLast first values items (slice_index words k) k left

  -- each number from the first generation to the word's less one has its entry
  abbrev pub IsWhole : ℕ → List (Item V) → ℕ → ℕ → Type 0
  IsWhole first items word k = (n : ℕ) → first ≤ n → n < generation_of word → (e : Entry V) × InItems e items × (e.slot ≡ k) × (e.number ≡ n)

  -- the slot was never given back, and its opening value is home
  pub record ClosesUntouched (first : ℕ) (values : List V) (word k : ℕ) (left : List (Option V)) : Type 0 where
    pub value : V
    pub generation : generation_of word ≡ first
    pub is_opening : get_elem? values k ≡ some value
    pub is_home : get_elem? left k ≡ some (Some value)

  -- the value that the last entry left is home
  pub record ClosesAfter (items : List (Item V)) (word k : ℕ) (left : List (Option V)) : Type 0 where
    pub entry : Entry V
    pub is_item : InItems entry items
    pub slot : entry.slot ≡ k
    pub is_last : entry.number + 1 ≡ generation_of word
    pub is_home : get_elem? left k ≡ some (Some entry.after)
