-- The rule of the table: what holds between any two steps of any passes. Each slot has a past, latest entry first, and each entry of a past is in one view.
use Rattle.std.specs.Prelude.{◌≡◌, ℕ, ◌+◌, ◌<◌, ◌≤◌, Bool, true, false, cond, ◌==◌, List, [], ◌∷◌, length, slice_index, Option, Some, None}
use mathlib.Core.Option.{none, some}
use mathlib.Core.Option as maybe
use lib.ListN.{get_elem?}
use Rattle.atomic_table.specs.Table.{State}
use Rattle.turn_store.specs.declared.view.Entry.{Entry}
use Rattle.turn_store.specs.declared.view.Hold.{Hold}
use Rattle.turn_store.specs.declared.view.View.{View}
use Rattle.turn_store.specs.Items.{In, InItems, InHeld, count_items, count_past, roles_of, role_at}
use Rattle.turn_store.specs.Words.{taken_of, generation_of, change_of, pin_of}

module _ {V : Type 0} where
  -- how many entries of all views have this slot and number
  abbrev pub total : ℕ → ℕ → List (View V) → ℕ
  total k n [] = 0
  total k n (d ∷ ds) = count_items k n d.items + total k n ds

  -- what the last entry left, or the opening value
  abbrev pub left_by : maybe.Option V → List (Entry V) → maybe.Option V
  left_by began [] = began
  left_by began (e ∷ es) = some e.after

  abbrev pub last_change : List (Entry V) → ℕ
  last_change [] = 0
  last_change (e ∷ es) = e.change

  -- a legal past of the slot k, latest entry first: numbers go up by one, values are handed on, change numbers do not fall, pins are the administrator's
  abbrev pub Legal : ℕ → ℕ → maybe.Option V → List ℕ → List (Entry V) → Type 0
  Legal k first began roles [] = Unit {0}
  Legal k first began roles (e ∷ es) = (e.slot ≡ k) × (e.number ≡ first + length es) × (some e.before ≡ left_by began es) × (last_change es ≤ e.change) × (e.change ≤ length roles) × (e.pin ≡ role_at roles e.change) × Legal k first began roles es

-- whether a seat with this hand carries the slot
abbrev pub is_out : Option ℕ → ℕ → Bool
is_out None k = false
is_out (Some j) k = j == k

module _ {V : Type 0} where
  -- what a seat with this hand carries: the slot, whose value is out
  abbrev pub carried_of : Option ℕ → List (ℕ × Option V)
  carried_of None = []
  carried_of (Some k) = (k, None) ∷ []

  abbrev pub has_hold : ℕ → List (Hold V) → Bool
  has_hold k [] = false
  has_hold k (t ∷ ts) = cond (t.slot == k) true (has_hold k ts)

  -- the slot that is carried is of a hold of the seat
  abbrev pub is_handy : Option ℕ → List (Hold V) → Bool
  is_handy None ts = true
  is_handy (Some k) ts = has_hold k ts

-- a slot is free, or its last generation is over, or a seat holds it and may carry it in hand
pub data Phase (V : Type 0) : Type 0 where
  free : Phase V
  over : Phase V
  taken : ℕ → Bool → Hold V → Phase V

module _ {V : Type 0} where
  -- the lock is free or exhausted: the value is home, and it is the one that the last entry left
  pub record AtHome (home : maybe.Option (maybe.Option (Option V))) (left : maybe.Option V) : Type 0 where
    pub value : V
    pub is_left : left ≡ some value
    pub is_home : home ≡ some (some (Some value))

  -- a seat holds the lock: bit 0 is set, and the hold is of the word's generation, with the value that the last entry left
  pub record IsTaken (word : ℕ) (home : maybe.Option (maybe.Option (Option V))) (k : ℕ) (roles : List ℕ) (past : List (Entry V)) (left : maybe.Option V) (out : Bool) (t : Hold V) : Type 0 where
    pub bit : taken_of word ≡ 1
    pub room : generation_of word < 4294967295
    pub slot : t.slot ≡ k
    pub number : t.number ≡ generation_of word
    pub value : left ≡ some t.value
    pub later : last_change past ≤ t.change
    pub change : t.change ≤ length roles
    pub pin : t.pin ≡ role_at roles t.change
    pub is_home : home ≡ cond out (some none) (some (some None))

  abbrev pub PhaseOk : ℕ → maybe.Option (maybe.Option (Option V)) → ℕ → List ℕ → List (Entry V) → maybe.Option V → Phase V → Type 0
  PhaseOk word home k roles past left free = (taken_of word ≡ 0) × AtHome home left
  PhaseOk word home k roles past left over = (generation_of word ≡ 4294967295) × AtHome home left
  PhaseOk word home k roles past left (taken j out t) = IsTaken word home k roles past left out t

  -- the word, the past and the phase of one slot agree
  pub record SlotOk (first : ℕ) (began : maybe.Option V) (k word : ℕ) (home : maybe.Option (maybe.Option (Option V))) (roles : List ℕ) (past : List (Entry V)) (phase : Phase V) : Type 0 where
    pub generation : generation_of word ≡ first + length past
    pub change : change_of word ≡ length roles
    pub pin : pin_of word ≡ role_at roles (length roles)
    pub legal : Legal k first began roles past
    pub phase_ok : PhaseOk word home k roles past (left_by began past) phase

  -- what a seat knows is so
  pub record Knows (admin : ℕ) (roles : ℕ → List ℕ) (past : ℕ → List (Entry V)) (phase : ℕ → Phase V) (j : ℕ) (d : View V) : Type 0 where
    pub entries : (e : Entry V) → InItems e d.items → In e (past e.slot)
    pub turns : (t : Hold V) → InHeld t d.held → phase t.slot ≡ taken j (is_out d.hand t.slot) t
    pub administers : d.admin ≡ true → (j ≡ admin) × ((k : ℕ) → roles_of k d.changes ≡ roles k)

  -- the seat j has the hold
  pub record IsHolder (views : List (View V)) (k j : ℕ) (t : Hold V) : Type 0 where
    pub view : View V
    pub is_there : get_elem? views j ≡ some view
    pub has : InHeld t view.held
    pub slot : t.slot ≡ k

  -- the rule
  pub record IsLockState (first : ℕ) (values : List V) (s : State (Option V) (View V)) : Type 0 where
    pub wide : length s.words ≡ length s.homes
    pub admin : ℕ
    pub roles : ℕ → List ℕ
    pub past : ℕ → List (Entry V)
    pub phase : ℕ → Phase V
    pub each_slot : (k : ℕ) → k < length s.homes → SlotOk first (get_elem? values k) k (slice_index s.words k) (get_elem? s.homes k) (roles k) (past k) (phase k)
    pub each_seat : (j : ℕ) (d : View V) → get_elem? s.views j ≡ some d → Knows admin roles past phase j d
    pub holders : (k j : ℕ) (out : Bool) (t : Hold V) → phase k ≡ taken j out t → IsHolder s.views k j t
    pub idle : (k : ℕ) → length s.homes ≤ k → phase k ≡ free
    pub beyond : (k : ℕ) → length s.homes ≤ k → past k ≡ []
    pub ledger : (k n : ℕ) → total k n s.views ≡ count_past k n (past k)

  -- the view of a new pass
  abbrev pub newcomer : View V
  newcomer = record { items = []; held = []; hand = None; admin = false; changes = [] }

  -- the view of the administrator's pass at the beginning
  abbrev pub beginner : View V
  beginner = record { items = []; held = []; hand = None; admin = true; changes = [] }
