-- How the slots of names and the list of what was bound belong together.
use Rattle.std.specs.Prelude.{ℕ, ◌+◌, List, [], ◌∷◌, ◌≡◌, ◌==◌, slice_index_or, if◌then◌else◌}
use Rattle.std.specs.declared.option.Option.{Option}
use Rattle.std.specs.declared.option.Option.TheVariants.{Some, None}
use Rattle.php_world.specs.declared.cell.Held.{Held}
use Rattle.php_world.specs.declared.cell.Held.TheVariants.{Nothing}
use Rattle.php_world.specs.declared.scopes.Slot.{Slot}
use Rattle.php_world.specs.declared.scopes.Item.{Item}
use Rattle.php_world.specs.declared.scopes.Item.TheVariants.{Named, Begins}

abbrev pub slot_with : ℕ → Held → Slot
slot_with depth held = record { depth = depth; held = held }

abbrev pub unbound : Slot
unbound = slot_with 0 Nothing

-- the slot of a number: past the slots it is unbound
abbrev pub slot_in : List Slot → ℕ → Slot
slot_in slots n = slice_index_or slots n unbound

abbrev pub with_slot : ℕ → Slot → (ℕ → Slot) → ℕ → Slot
with_slot n slot at m = if n == m then slot else at m

-- how many calls run
abbrev pub count_calls : List Item → ℕ
count_calls [] = 0
count_calls (Named n b old ∷ items) = count_calls items
count_calls (Begins base ∷ items) = count_calls items + 1

-- the cells before the newest call, and what was bound before it
abbrev pub base_of : List Item → Option ℕ
base_of [] = None
base_of (Named n b old ∷ items) = base_of items
base_of (Begins base ∷ items) = Some base

abbrev pub after_call : List Item → List Item
after_call [] = []
after_call (Named n b old ∷ items) = after_call items
after_call (Begins base ∷ items) = items

-- each slot holds what was bound newest under its number, and behind each name that was bound stands what its slot held
abbrev pub AreSlots : (ℕ → Slot) → List Item → Type 0
AreSlots at [] = (n : ℕ) → at n ≡ unbound
AreSlots at (Named n b old ∷ items) = (at n ≡ slot_with (count_calls items + 1) b) × AreSlots (with_slot n old at) items
AreSlots at (Begins base ∷ items) = AreSlots at items

pub record IsIndexed (depth : ℕ) (slots : List Slot) (items : List Item) : Type 0 where
  pub depth_is : depth ≡ count_calls items + 1
  pub slots_are : AreSlots (slot_in slots) items

-- what is kept while a call is left: the call, and the slots of what is still there
pub record IsLeaving (before : List Item) (depth : ℕ) (slots : List Slot) (items : List Item) : Type 0 where
  pub base : base_of items ≡ base_of before
  pub after : after_call items ≡ after_call before
  pub indexed : IsIndexed depth slots items

-- a name is bound on top of what was bound before
pub record IsBound (number : ℕ) (held : Held) (old new : List Item) : Type 0 where
  pub slot : Slot
  pub is : new ≡ Named number held slot ∷ old
