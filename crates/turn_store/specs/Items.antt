-- The record of a pass: failed acquires, and entries of locks that were acquired and released. And the administrator's changes.
use Rattle.std.specs.Prelude.{◌≡◌, ◌⊎◌, ℕ, ◌+◌, cond, ◌==◌, ◌&&◌, List, [], ◌∷◌, length, slice_index}
use Rattle.turn_store.specs.declared.view.Entry.{Entry}
use Rattle.turn_store.specs.declared.view.Item.{Item}
use Rattle.turn_store.specs.declared.view.Item.TheVariants.{Failed, Completed}
use Rattle.turn_store.specs.declared.view.Hold.{Hold}
use Rattle.turn_store.specs.declared.view.Change.{Change}
use Rattle.turn_store.specs.Words.{generation_of, change_of, pin_of}

-- ---- changes

abbrev pub change : ℕ → ℕ → Change
change k role = record { slot = k; role = role }

-- the roles that a slot was given, in order
abbrev pub roles_of : ℕ → List Change → List ℕ
roles_of k [] = []
roles_of k (c ∷ cs) = cond (c.slot == k) (c.role ∷ roles_of k cs) (roles_of k cs)

-- the role at a change number: 0 before the first change
abbrev pub role_at : List ℕ → ℕ → ℕ
role_at roles c = slice_index (0 ∷ roles) c

-- the role of the last change, or 0
abbrev pub last_role : List ℕ → ℕ
last_role roles = role_at roles (length roles)

module _ {V : Type 0} where
  -- ---- holds and entries

  -- the hold that a slot's word opens, with the value that stood home
  abbrev pub hold_at : ℕ → ℕ → V → Hold V
  hold_at k word v = record { slot = k; number = generation_of word; change = change_of word; pin = pin_of word; value = v }

  -- the entry of a hold that left the value v
  abbrev pub entry_of : Hold V → V → Entry V
  entry_of t v = record { slot = t.slot; number = t.number; change = t.change; pin = t.pin; before = t.value; after = v }

  abbrev pub InHeld : Hold V → List (Hold V) → Type 0
  InHeld t [] = ⊥
  InHeld t (x ∷ xs) = (t ≡ x) ⊎ InHeld t xs

  -- the holds of the other slots
  abbrev pub without : ℕ → List (Hold V) → List (Hold V)
  without k [] = []
  without k (t ∷ ts) = cond (t.slot == k) (without k ts) (t ∷ without k ts)

  -- ---- entries in lists

  abbrev pub In : Entry V → List (Entry V) → Type 0
  In e [] = ⊥
  In e (x ∷ xs) = (e ≡ x) ⊎ In e xs

  abbrev pub InItems : Entry V → List (Item V) → Type 0
  InItems e [] = ⊥
  InItems e (Failed k w ∷ xs) = InItems e xs
  InItems e (Completed x ∷ xs) = (e ≡ x) ⊎ InItems e xs

  abbrev pub hit : ℕ → ℕ → Entry V → ℕ
  hit k n e = cond ((e.slot == k) && (e.number == n)) 1 0

  -- how many entries have this slot and number
  abbrev pub count_items : ℕ → ℕ → List (Item V) → ℕ
  count_items k n [] = 0
  count_items k n (Failed i w ∷ xs) = count_items k n xs
  count_items k n (Completed e ∷ xs) = hit k n e + count_items k n xs

  abbrev pub count_past : ℕ → ℕ → List (Entry V) → ℕ
  count_past k n [] = 0
  count_past k n (e ∷ es) = hit k n e + count_past k n es
