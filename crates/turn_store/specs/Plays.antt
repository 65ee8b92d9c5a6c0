-- What each step on the table tells the seat that makes it.
use Rattle.std.specs.Prelude.{◌≡◌, ℕ, ◌+◌, ◌/◌, ◌%◌, ◌^◌, ◌<◌, [], ◌∷◌, ◌++◌, length, true, Option, Some, None}
use Rattle.atomic_table.specs.Table.{Me, Step, rest}
use Rattle.turn_store.specs.declared.view.Item.TheVariants.{Failed, Completed}
use Rattle.turn_store.specs.declared.view.Hold.{Hold}
use Rattle.turn_store.specs.declared.view.View.{View}
use Rattle.turn_store.specs.Items.{InHeld, without, roles_of, last_role, change, hold_at, entry_of}
use Rattle.turn_store.specs.Words.{taken_of, generation_of, change_of, pin_of}

abbrev Sat : Type 0 → Type 0
Sat V = Me (Option V) (View V)

abbrev At : Type 0 → Type 0
At V = Step (Option V)

module _ {V : Type 0} where
  -- a failed acquire is noted
  abbrev pub refused : ℕ → ℕ → View V → View V
  refused k word d = record d { items = d.items ++ Failed k word ∷ [] }

  abbrev pub holding : Hold V → View V → View V
  holding t d = record d { held = t ∷ d.held }

  abbrev pub with_hand : Option ℕ → View V → View V
  with_hand h d = record d { hand = h }

  abbrev pub released : Hold V → V → View V → View V
  released t v d = record d { items = d.items ++ Completed (entry_of t v) ∷ []; held = without t.slot d.held; hand = None }

  -- an acquire: it fails where the lock is exhausted or taken, and else the seat holds the slot and carries it
  abbrev pub took : At V → Sat V → ℕ → Sat V → Type 0
  took st m found m' = (generation_of found ≡ 4294967295 → m' ≡ (refused st.word found m.0, m.1))
      × (generation_of found < 4294967295 → taken_of found ≡ 1 → m' ≡ (refused st.word found m.0, m.1))
      × (generation_of found < 4294967295 → taken_of found ≡ 0 → (v : V) × (m' ≡ (with_hand (Some st.word) (holding (hold_at st.word found v) m.0), (st.word, Some v) ∷ [])))

  -- the empty slot is fetched
  abbrev pub fetched : At V → Sat V → ℕ → Sat V → Type 0
  fetched st m found m' = m' ≡ (with_hand (Some st.word) m.0, (st.word, None) ∷ [])

  -- a release: the slot goes home with its new value, and the entry is noted
  abbrev pub gave : At V → Sat V → ℕ → Sat V → Type 0
  gave st m found m' = (m'.1 ≡ rest m.1) × ((t : Hold V) (v : V) → InHeld t m.0.held → t.slot ≡ st.word → m.1 ≡ (st.word, Some v) ∷ rest m.1 → m'.0 ≡ released t v m.0)

  abbrev pub with_change : ℕ → ℕ → View V → View V
  with_change k role d = record d { changes = d.changes ++ change k role ∷ [] }

  -- the word has the change number and the pin of the administrator's list
  abbrev pub known : At V → Sat V → ℕ → Sat V → Type 0
  known st m found m' = (m' ≡ m) × (change_of found ≡ length (roles_of st.word m.0.changes)) × (pin_of found ≡ last_role (roles_of st.word m.0.changes))

  -- the new role is the old one and what was added, in turn
  abbrev pub pinned : At V → Sat V → ℕ → Sat V → Type 0
  pinned st m found m' = (m' ≡ (with_change st.word (pin_of ((found + st.first) % 2 ^ 64)) m.0, m.1))
      × (pin_of ((found + st.first) % 2 ^ 64) ≡ (last_role (roles_of st.word m.0.changes) + st.first / 8589934592 / 16777216) % 128)

  -- the view with another's items
  abbrev pub joined : View V → View V → View V
  joined d e = record d { items = d.items ++ e.items }

  -- the same, and it has the administrator's changes
  abbrev pub ruling : View V → View V → View V
  ruling d e = record d { items = d.items ++ e.items; admin = true; changes = e.changes }
