-- Slots of names: what is seen in them, and how a name is bound and put back.
use Rattle.std.proofs.Common.{rules, ◌≡◌, ℕ, zero, suc, ◌+◌, ◌-◌, ◌≤◌, ◌<◌, ◌++◌, Bool, true, false, ◌==◌, if◌then◌else◌, List, [], ◌∷◌, length, refl, sym, subst, ap, ◌∙◌, Option, None, slice_set, slice_index_or, arith}
use Rattle.std.proofs.lemmas.Bool.Decides.{nat_tests}
use Rattle.std.specs.Str.{bytes_eq}
use Rattle.php_world.specs.declared.cell.Held.{Held}
use Rattle.php_world.specs.declared.cell.Held.TheVariants.{Nothing}
use Rattle.php_world.specs.declared.scopes.Slot.{Slot}
use Rattle.php_world.specs.declared.scopes.Item.{Item}
use Rattle.php_world.specs.declared.scopes.Item.TheVariants.{Named, Begins}
use Rattle.php_world.specs.Variables.{Binding}
use Rattle.php_world.specs.Naming.{AreDistinct}
use Rattle.php_world.specs.Slots.{slot_with, unbound, slot_in, with_slot, count_calls, AreSlots, IsIndexed, IsLeaving}
use Rattle.php_world.specs.View.{held_of, scope_at}

-- what a slot shows in a scope
abbrev pub seen : ℕ → Slot → Held
seen depth slot = if slot.depth == depth then slot.held else Nothing

seen_same : (c : Bool) (b : Held) → c ≡ true → held_of (if c then b else Nothing) ≡ held_of b
seen_same c b e = ap (λ c. held_of (if c then b else Nothing)) e

seen_none : (c : Bool) (b : Held) → c ≡ false → held_of (if c then b else Nothing) ≡ None
seen_none c b e = ap (λ c. held_of (if c then b else Nothing)) e

at_same : {X : Type 0} (c : Bool) (m n : ℕ) (at : ℕ → X) → (m == n) ≡ c → c ≡ true → at n ≡ at m
at_same c m n at e is = let same : n ≡ m = grind (arith, nat_tests) in ap at same

depth_step : (c : Bool) (m n d : ℕ) (b : Held) (old : Slot) (at : ℕ → Slot) → (m == n) ≡ c → at m ≡ slot_with d b → (if c then old else at n).depth ≤ d → (at n).depth ≤ d
depth_step true m n d b old at e h ih = let is : (at n).depth ≡ d = ap (λ s. s.depth) (at_same true m n at e refl ∙ h) in omega arith
depth_step false m n d b old at e h ih = ih

-- no slot is of a scope that did not begin
pub depth_within : (items : List Item) (at : ℕ → Slot) (n : ℕ) → AreSlots at items → (at n).depth ≤ count_calls items + 1
depth_within [] at n h = let is : (at n).depth ≡ 0 = ap (λ s. s.depth) (h n) in omega arith
depth_within (Named m b old ∷ items) at n h = depth_step (m == n) m n (count_calls items + 1) b old at refl h.0 (depth_within items (with_slot m old at) n h.1)
depth_within (Begins base ∷ items) at n h = let le = depth_within items at n h in omega arith

named_step : (c d : Bool) (m n k : ℕ) (b : Held) (old : Slot) (at : ℕ → Slot) (rest : Option Binding) → (m == n) ≡ c → d ≡ (m == n) → at m ≡ slot_with k b → held_of (seen k (if c then old else at n)) ≡ rest
    → held_of (seen k (at n)) ≡ (if d then held_of b else rest)
named_step true d m n k b old at rest e f h ih =
    ap (λ s. held_of (seen k s)) (at_same true m n at e refl ∙ h) ∙ seen_same (k == k) b (grind (arith, nat_tests)) ∙ ap (λ d. if d then held_of b else rest) (sym (f ∙ e))
named_step false d m n k b old at rest e f h ih = ih ∙ ap (λ d. if d then held_of b else rest) (sym (f ∙ e))

-- a slot shows what its name is bound to in the newest scope
pub seen_in : (name : ℕ → List ℕ) (items : List Item) (at : ℕ → Slot) (n : ℕ) → AreDistinct name → AreSlots at items → held_of (seen (count_calls items + 1) (at n)) ≡ scope_at name items (name n)
seen_in name [] at n differ h = ap (λ s. held_of (seen 1 s)) (h n)
seen_in name (Named m b old ∷ items) at n differ h =
    named_step (m == n) (bytes_eq (name m) (name n)) m n (count_calls items + 1) b old at (scope_at name items (name n)) refl (differ m n) h.0 (seen_in name items (with_slot m old at) n differ h.1)
seen_in name (Begins base ∷ items) at n differ h =
    let le = depth_within items at n h in
    seen_none ((at n).depth == count_calls items + 1 + 1) (at n).held (grind (arith, nat_tests))

-- ---- writing a slot

pub set_there : (xs : List Slot) (n : ℕ) (v d : Slot) → n < length xs → slice_index_or (slice_set xs n v) n d ≡ v
set_there [] n v d h = absurd (omega arith)
set_there (x ∷ xs) zero v d h = refl
set_there (x ∷ xs) (suc n) v d h = set_there xs n v d (omega arith)

pub set_elsewhere : (xs : List Slot) (n m : ℕ) (v d : Slot) → (n == m) ≡ false → slice_index_or (slice_set xs n v) m d ≡ slice_index_or xs m d
set_elsewhere [] n m v d e = refl
set_elsewhere (x ∷ xs) zero zero v d e = search (rules, e)
set_elsewhere (x ∷ xs) zero (suc m) v d e = refl
set_elsewhere (x ∷ xs) (suc n) zero v d e = refl
set_elsewhere (x ∷ xs) (suc n) (suc m) v d e = set_elsewhere xs n m v d (grind (arith, nat_tests, e))

-- slots that hold the same belong to the same names
pub same_slots : (items : List Item) (at other : ℕ → Slot) → ((m : ℕ) → other m ≡ at m) → AreSlots at items → AreSlots other items
same_slots items at other e h = subst (λ f. AreSlots f items) (λ i m. sym (e m) i) h

back_step : (c : Bool) (xs : List Slot) (n m : ℕ) (v old : Slot) (at : ℕ → Slot) → (n == m) ≡ c → ((k : ℕ) → slot_in xs k ≡ at k) → old ≡ at n → (if c then old else slot_in (slice_set xs n v) m) ≡ at m
back_step true xs n m v old at e same o = o ∙ sym (at_same true n m at e refl)
back_step false xs n m v old at e same o = set_elsewhere xs n m v unbound e ∙ same m

-- a name is bound: its slot is written, and what it held stands behind the name
pub bound_on : (items : List Item) (slots grown : List Slot) (n d : ℕ) (b : Held) (old : Slot) → AreSlots (slot_in slots) items → ((k : ℕ) → slot_in grown k ≡ slot_in slots k) → n < length grown → old ≡ slot_in slots n → d ≡ count_calls items + 1
    → AreSlots (slot_in (slice_set grown n (slot_with d b))) (Named n b old ∷ items)
bound_on items slots grown n d b old h same long o is = (
  set_there grown n (slot_with d b) unbound long ∙ ap (λ d. slot_with d b) is,
  same_slots items (slot_in slots) (with_slot n old (slot_in (slice_set grown n (slot_with d b)))) (λ m. back_step (n == m) grown n m (slot_with d b) old (slot_in slots) refl same o) h,
)

put_step : (c : Bool) (xs : List Slot) (n m : ℕ) (old : Slot) → (n == m) ≡ c → n < length xs → slot_in (slice_set xs n old) m ≡ (if c then old else slot_in xs m)
put_step true xs n m old e long = at_same true n m (slot_in (slice_set xs n old)) e refl ∙ set_there xs n old unbound long
put_step false xs n m old e long = set_elsewhere xs n m old unbound e

-- what a name hid is put back
pub put_back : (items : List Item) (slots : List Slot) (n : ℕ) (old : Slot) → n < length slots → AreSlots (with_slot n old (slot_in slots)) items → AreSlots (slot_in (slice_set slots n old)) items
put_back items slots n old long h = same_slots items (with_slot n old (slot_in slots)) (slot_in (slice_set slots n old)) (λ m. put_step (n == m) slots n m old refl long) h

past_slots : (xs : List Slot) (n : ℕ) → length xs ≤ n → slot_in xs n ≡ unbound
past_slots [] n h = refl
past_slots (x ∷ xs) zero h = absurd (omega arith)
past_slots (x ∷ xs) (suc n) h = past_slots xs n (omega arith)

-- past the slots nothing is bound
pub seen_past : (name : ℕ → List ℕ) (items : List Item) (slots : List Slot) (n : ℕ) → AreDistinct name → AreSlots (slot_in slots) items → length slots ≤ n → None ≡ scope_at name items (name n)
seen_past name items slots n differ h past =
    sym (ap (λ s. held_of (seen (count_calls items + 1) s)) (past_slots slots n past) ∙ seen_none (0 == count_calls items + 1) Nothing (grind (arith, nat_tests))) ∙ seen_in name items (slot_in slots) n differ h

-- ---- what `get` finds

other_default : (xs : List Slot) (n : ℕ) (d e : Slot) → n < length xs → slice_index_or xs n d ≡ slice_index_or xs n e
other_default [] n d e h = absurd (omega arith)
other_default (x ∷ xs) zero d e h = refl
other_default (x ∷ xs) (suc n) d e h = other_default xs n d e (omega arith)

pub found_in : (name : ℕ → List ℕ) (items : List Item) (slots : List Slot) (n depth : ℕ) (slot : Slot) → AreDistinct name → IsIndexed depth slots items → n < length slots → slot ≡ slice_index_or slots n slot
    → held_of (seen depth slot) ≡ scope_at name items (name n)
found_in name items slots n depth slot differ h long is =
    ap (λ s. held_of (seen depth s)) (is ∙ other_default slots n slot unbound long) ∙ ap (λ d. held_of (seen d (slot_in slots n))) h.depth_is ∙ seen_in name items (slot_in slots) n differ h.slots_are

pub got : (name : ℕ → List ℕ) (items : List Item) (slots : List Slot) (n depth : ℕ) (slot : Slot) → AreDistinct name → IsIndexed depth slots items → n < length slots → slot ≡ slice_index_or slots n slot → slot.depth ≡ depth
    → held_of slot.held ≡ scope_at name items (name n)
got name items slots n depth slot differ h long is same =
    sym (seen_same (slot.depth == depth) slot.held (grind (arith, nat_tests))) ∙ found_in name items slots n depth slot differ h long is

pub got_none : (name : ℕ → List ℕ) (items : List Item) (slots : List Slot) (n depth : ℕ) (slot : Slot) → AreDistinct name → IsIndexed depth slots items → n < length slots → slot ≡ slice_index_or slots n slot → (slot.depth ≡ depth → ⊥)
    → None ≡ scope_at name items (name n)
got_none name items slots n depth slot differ h long is other =
    sym (seen_none (slot.depth == depth) slot.held (grind (arith, nat_tests, other))) ∙ found_in name items slots n depth slot differ h long is

-- ---- more slots

pub one_more : (xs : List Slot) (n : ℕ) → slot_in (xs ++ unbound ∷ []) n ≡ slot_in xs n
one_more [] zero = refl
one_more [] (suc n) = refl
one_more (x ∷ xs) zero = refl
one_more (x ∷ xs) (suc n) = one_more xs n

-- ---- leaving

pub named_there : (items : List Item) (slots : List Slot) (n : ℕ) (b : Held) (old : Slot) → AreSlots (slot_in slots) (Named n b old ∷ items) → length slots ≤ n → ⊥
named_there items slots n b old h past = let is : 0 ≡ count_calls items + 1 = ap (λ s. s.depth) (sym (past_slots slots n past) ∙ h.0) in omega arith

pub named_left : (before items rest : List Item) (depth : ℕ) (slots : List Slot) (n : ℕ) (b : Held) (old : Slot) → IsLeaving before depth slots items → items ≡ Named n b old ∷ rest → n < length slots
    → IsLeaving before depth (slice_set slots n old) rest
named_left before items rest depth slots n b old h is long =
    let all : IsLeaving before depth slots (Named n b old ∷ rest) = subst (IsLeaving before depth slots) is h in
    record { base = all.base; after = all.after; indexed = record { depth_is = all.indexed.depth_is; slots_are = put_back rest slots n old long all.indexed.slots_are.1 } }

pub named_not_past : (before items rest : List Item) (depth : ℕ) (slots : List Slot) (n : ℕ) (b : Held) (old : Slot) → IsLeaving before depth slots items → items ≡ Named n b old ∷ rest → length slots ≤ n → ⊥
named_not_past before items rest depth slots n b old h is past =
    let all : IsLeaving before depth slots (Named n b old ∷ rest) = subst (IsLeaving before depth slots) is h in
    named_there rest slots n b old all.indexed.slots_are past

pub call_left : (before items rest : List Item) (depth : ℕ) (slots : List Slot) (base : ℕ) → IsLeaving before depth slots items → items ≡ Begins base ∷ rest → IsLeaving before depth slots (Begins base ∷ rest)
call_left before items rest depth slots base h is = subst (IsLeaving before depth slots) is h

pub none_left : (before items : List Item) (depth : ℕ) (slots : List Slot) → IsLeaving before depth slots items → items ≡ [] → IsLeaving before depth slots []
none_left before items depth slots h is = subst (IsLeaving before depth slots) is h

pub call_indexed : (before rest : List Item) (depth : ℕ) (slots : List Slot) (base : ℕ) → IsLeaving before depth slots (Begins base ∷ rest) → IsIndexed (depth - 1) slots rest
call_indexed before rest depth slots base h = let d = h.indexed.depth_is in record { depth_is = omega arith; slots_are = h.indexed.slots_are }

-- a name was bound
pub indexed_on : (items new : List Item) (slots grown : List Slot) (n depth : ℕ) (b : Held) (old : Slot) → IsIndexed depth slots items → ((k : ℕ) → slot_in grown k ≡ slot_in slots k) → n < length grown → old ≡ slice_index_or grown n old
    → new ≡ Named n b old ∷ items → IsIndexed depth (slice_set grown n (slot_with depth b)) new
indexed_on items new slots grown n depth b old h same long is made =
    let at : old ≡ slot_in slots n = is ∙ other_default grown n old unbound long ∙ same n in
    subst (IsIndexed depth (slice_set grown n (slot_with depth b))) (sym made)
    (record { depth_is = h.depth_is; slots_are = bound_on items slots grown n depth b old h.slots_are same long at h.depth_is })
