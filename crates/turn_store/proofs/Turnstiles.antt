-- What was handed out may be given back, also after other calls.
use Rattle.std.proofs.Common.{◌≡◌, ◌≢◌, ℕ, zero, suc, ◌+◌, ◌<◌, ◌%◌, List, [], ◌∷◌, length, get_or, set, sym, refl, ap, ◌∙◌, subst, inl, inr, arith, Option, Some, None, length-set, get_or-set_other, get_or-set_same, bit_or}
use mathlib.Core.Option.{some, some-ne-none}
use mathlib.Core.Logic.{dite}
use native.Mathlib.Decide.{ℕ_discrete}
use lib.ListN.{get_elem?}
use Rattle.atomic_table.proofs.Lists.{set_here, set_else}
use Rattle.turn_store.specs.declared.view.Hold.{Hold}
use Rattle.turn_store.specs.declared.take.Taken as out
use Rattle.turn_store.specs.declared.take.Take as answers
use Rattle.turn_store.specs.declared.take.Take.TheVariants.{Taken, Busy, Spent}
use Rattle.turn_store.specs.declared.take.Pinned.{Pinned}
use Rattle.turn_store.specs.declared.take.Pinned.TheVariants.{Changed, ChangesSpent}
use Rattle.turn_store.specs.Items.{InHeld}
use Rattle.turn_store.specs.Words.{taken_of, generation_of}
use Rattle.turn_store.specs.Told.{Told, lane, alone, slots, hold_of, IsOut, held_after, HandsOut, TellsTake, MayGive, TellsGift}
use Rattle.turn_store.specs.Alone.{PinsAlone}
use Rattle.turn_store.proofs.WordSteps.{marked_half, marked_taken}
use Rattle.turn_store.proofs.Counting.{still_in}

-- the generation of a word whose bit 0 is set
marked_generation : (w : ℕ) → generation_of (bit_or w 1) ≡ generation_of w
marked_generation w = ap (λ (z : ℕ). z % 4294967296) (marked_half w)

-- a word that is marked again is as before, in its bit 0 and its generation
marked_again : (words : List ℕ) (k i : ℕ) → k < length words → taken_of (get_or words i 0) ≡ 1 → let new : List ℕ = set words k (bit_or (get_or words k 0) 1) in
    (taken_of (get_or new i 0) ≡ taken_of (get_or words i 0)) × (generation_of (get_or new i 0) ≡ generation_of (get_or words i 0))
marked_again words k i inside bit = let x : ℕ = bit_or (get_or words k 0) 1 in dite (ℕ_discrete i k)
    (λ same. let at : get_or (set words k x) i 0 ≡ x = ap (λ (z : ℕ). get_or (set words k x) z 0) same ∙ get_or-set_same words k x 0 inside in
    let old : get_or words k 0 ≡ get_or words i 0 = ap (λ (z : ℕ). get_or words z 0) (sym same) in
    ((ap (λ (z : ℕ). taken_of z) at ∙ marked_taken (get_or words k 0)) ∙ sym bit, ap (λ (z : ℕ). generation_of z) at ∙ (marked_generation (get_or words k 0) ∙ ap (λ (z : ℕ). generation_of z) old)))
    (λ ne. let at = get_or-set_other words k i x 0 ne in (ap (λ (z : ℕ). taken_of z) at, ap (λ (z : ℕ). generation_of z) at))

module _ {V : Type 0} where
  within_home : (values : List (Option V)) (k : ℕ) (x : Option V) → get_elem? values k ≡ some x → k < length values
  within_home [] k x e = absurd (some-ne-none x (sym e))
  within_home (y ∷ ys) zero x e = omega arith
  within_home (y ∷ ys) (suc k) x e = let h = within_home ys k x e in omega arith

  -- what was taken may be given back
  pub may_give : (k : ℕ) (told told' : Told V) (r : answers.Take V) (t : out.Taken V) → r ≡ Taken t → k < slots told → TellsTake k told r told' → MayGive told' t
  may_give k told told' r t is inside did = go told inside (subst (λ (z : answers.Take V). TellsTake k told z told') is did)
    where
      go : (told : Told V) → k < slots told → TellsTake k told (Taken t) told' → MayGive told' t
      go (lane store items held) inside did = let a = did.0.1 in subst (λ (z : Told V). MayGive z t) (sym did.1) ((let s = a.slot in omega arith), inl refl)
      go (alone words values) inside did = let a = did.0 in let w : ℕ = get_or words k 0 in let now = did.1.2 in let on = a.slot in
          let at : get_or (set words k (bit_or w 1)) t.slot 0 ≡ bit_or w 1 = ap (λ (z : ℕ). get_or (set words k (bit_or w 1)) z 0) on ∙ get_or-set_same words k (bit_or w 1) 0 inside in
          let same = marked_generation w in
          subst (λ (z : Told V). MayGive z t) (sym now) record {
            inside = (let n = length-set words k (bit_or w 1) in omega arith);
            bit = ap (λ (z : ℕ). taken_of z) at ∙ marked_taken w;
            number = a.number ∙ sym (ap (λ (z : ℕ). generation_of z) at ∙ same);
            room = subst (λ (z : ℕ). z < 4294967295) (sym (ap (λ (z : ℕ). generation_of z) at ∙ same)) a.room;
            empty = home did.1.0 did.1.1;
          }
        where
          home : (values' : List (Option V)) → ((get_elem? values k ≡ some (Some t.value)) × (values' ≡ set values k None)) → get_elem? values' t.slot ≡ some None
          home values' h = ap (λ (l : List (Option V)). get_elem? l t.slot) h.1 ∙ (ap (get_elem? (set values k None)) did.0.slot ∙ set_here values k None (within_home values k (Some t.value) h.0))

  -- ---- what may be given back stays so

  stays_held : (r : answers.Take V) (t : Hold V) (held : List (Hold V)) → InHeld t held → InHeld t (held_after r held)
  stays_held (Taken x) t held h = inr h
  stays_held (Busy w) t held h = h
  stays_held (Spent w) t held h = h

  stays_empty : (k i : ℕ) (r : answers.Take V) (values values' : List (Option V)) → HandsOut k r values values' → get_elem? values i ≡ some None → get_elem? values' i ≡ some None
  stays_empty k i (Taken x) values values' h e = ap (λ (l : List (Option V)). get_elem? l i) h.1 ∙ dite (ℕ_discrete i k)
      (λ same. ap (get_elem? (set values k None)) same ∙ set_here values k None (within_home values k (Some x.value) h.0))
      (λ ne. set_else values k i None ne ∙ e)
  stays_empty k i (Busy w) values values' h e = ap (λ (l : List (Option V)). get_elem? l i) h ∙ e
  stays_empty k i (Spent w) values values' h e = ap (λ (l : List (Option V)). get_elem? l i) h ∙ e

  still_out : (words words' : List ℕ) (values values' : List (Option V)) (t : out.Taken V) → IsOut words values t → length words' ≡ length words
      → (taken_of (get_or words' t.slot 0) ≡ taken_of (get_or words t.slot 0)) × (generation_of (get_or words' t.slot 0) ≡ generation_of (get_or words t.slot 0))
      → get_elem? values' t.slot ≡ some None → IsOut words' values' t
  still_out words words' values values' t was long same empty = record {
    inside = (let a = was.inside in omega arith);
    bit = same.0 ∙ was.bit;
    number = was.number ∙ sym same.1;
    room = subst (λ (z : ℕ). z < 4294967295) (sym same.1) was.room;
    empty = empty;
  }

  -- after another take
  pub may_give_after_take : (k : ℕ) (told told' : Told V) (r : answers.Take V) (t : out.Taken V) → k < slots told → TellsTake k told r told' → MayGive told t → MayGive told' t
  may_give_after_take k (lane store items held) told' r t inside did may = subst (λ (z : Told V). MayGive z t) (sym did.1) (may.0, stays_held r (hold_of t) held may.1)
  may_give_after_take k (alone words values) told' r t inside did may = subst (λ (z : Told V). MayGive z t) (sym did.1.2)
      (still_out words (set words k (bit_or (get_or words k 0) 1)) values did.1.0 t may (length-set words k (bit_or (get_or words k 0) 1)) (marked_again words k t.slot inside may.bit) (stays_empty k t.slot r values did.1.0 did.1.1 may.empty))

  -- after another slot was given back
  pub may_give_after_gift : (told told' : Told V) (given t : out.Taken V) → t.slot ≢ given.slot → TellsGift told given told' → MayGive told t → MayGive told' t
  may_give_after_gift (lane store items held) told' given t ne did may = subst (λ (z : Told V). MayGive z t) (sym did) (may.0, still_in (hold_of t) given.slot held ne may.1)
  may_give_after_gift (alone words values) told' given t ne did may = let x : ℕ = get_or words given.slot 0 + 1 in let at = get_or-set_other words given.slot t.slot x 0 ne in
      subst (λ (z : Told V). MayGive z t) (sym did) (still_out words (set words given.slot x) values (set values given.slot (Some given.value)) t may (length-set words given.slot x)
      (ap (λ (z : ℕ). taken_of z) at, ap (λ (z : ℕ). generation_of z) at) (set_else values given.slot t.slot (Some given.value) ne ∙ may.empty))

  -- after a slot was pinned, in a store that is used alone
  pub may_give_after_pin : (k role : ℕ) (words words' : List ℕ) (values : List (Option V)) (r : Pinned) (t : out.Taken V) → k < length words → PinsAlone k role words words' r → MayGive (alone words values) t → MayGive (alone words' values) t
  may_give_after_pin k role words words' values (Changed n) t inside did may = let y : ℕ = did.1.0 in let has = did.1.1 in
      subst (λ (ws : List ℕ). IsOut ws values t) (sym did.1.2) (still_out words (set words k y) values values t may (length-set words k y)
      (dite (ℕ_discrete t.slot k)
      (λ same. let at : get_or (set words k y) t.slot 0 ≡ y = ap (λ (z : ℕ). get_or (set words k y) z 0) same ∙ get_or-set_same words k y 0 inside in
      let old : get_or words k 0 ≡ get_or words t.slot 0 = ap (λ (z : ℕ). get_or words z 0) (sym same) in
      (ap (λ (z : ℕ). taken_of z) at ∙ (has.bit ∙ ap (λ (z : ℕ). taken_of z) old), ap (λ (z : ℕ). generation_of z) at ∙ (has.generation ∙ ap (λ (z : ℕ). generation_of z) old)))
      (λ ne. let at = get_or-set_other words k t.slot y 0 ne in (ap (λ (z : ℕ). taken_of z) at, ap (λ (z : ℕ). generation_of z) at)))
      may.empty)
  may_give_after_pin k role words words' values ChangesSpent t inside did may = subst (λ (ws : List ℕ). IsOut ws values t) (sym did.1) may

  -- ---- the count of slots stays

  pub slots_after_take : (k : ℕ) (told told' : Told V) (r : answers.Take V) → TellsTake k told r told' → slots told' ≡ slots told
  slots_after_take k (lane store items held) told' r did = ap (λ (z : Told V). slots z) did.1
  slots_after_take k (alone words values) told' r did = ap (λ (z : Told V). slots z) did.1.2 ∙ length-set words k (bit_or (get_or words k 0) 1)

  pub slots_after_gift : (told told' : Told V) (t : out.Taken V) → TellsGift told t told' → slots told' ≡ slots told
  slots_after_gift (lane store items held) told' t did = ap (λ (z : Told V). slots z) did
  slots_after_gift (alone words values) told' t did = ap (λ (z : Told V). slots z) did ∙ length-set words t.slot (get_or words t.slot 0 + 1)

  -- ---- only the value was changed

  pub may_give_changed : (told : Told V) (t : out.Taken V) (v : V) → MayGive told t → MayGive told (record t { value = v })
  may_give_changed (lane store items held) t v may = may
  may_give_changed (alone words values) t v may = record { inside = may.inside; bit = may.bit; number = may.number; room = may.room; empty = may.empty }

-- a pin changes no length
pub length_after_pin : (k role : ℕ) (words words' : List ℕ) (r : Pinned) → PinsAlone k role words words' r → length words' ≡ length words
length_after_pin k role words words' (Changed n) did = ap (λ (ws : List ℕ). length ws) did.1.2 ∙ length-set words k did.1.0
length_after_pin k role words words' ChangesSpent did = ap (λ (ws : List ℕ). length ws) did.1
