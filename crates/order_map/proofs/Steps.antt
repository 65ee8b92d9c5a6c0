-- What a map's calls need of its entries, in the words of their contracts.
use Rattle.std.proofs.Common.{rules, arith, ◌≡◌, ℕ, zero, suc, ◌+◌, ◌-◌, ◌<◌, ◌≤◌, true, List, [], ◌∷◌, ◌++◌, refl, sym, ap, ◌∙◌, subst, Option, Some, None, option_map, option_to_list, length, get_or, slice_get, take, drop, IsTrue, length-append, append-nil}
use Rattle.order_map.specs.declared.key.Key.{Key}
use Rattle.order_map.specs.declared.entry.Entry.{Entry}
use Rattle.order_map.specs.declared.place.Place.{Place}
use Rattle.order_map.specs.Keys.{all_distinct, next_after}
use Rattle.order_map.specs.MapView.{MapView, map_view, entry}
use Rattle.order_map.specs.Arrays.{with_pair, pairs_in, full_slots, place_at, keys_of, place_of, look}
use Rattle.order_map.specs.Chains.{slots_of, holds, held, IsLinked, IsIndex}
use Rattle.order_map.proofs.Lists.{got, get-inside, same_some, get-last}
use Rattle.order_map.proofs.Keys.{next_after-there}
use Rattle.order_map.proofs.Chains.{slots-push, slots-long, linked-push, linked-front}
use Rattle.order_map.proofs.Entries.{Found, found, Placed, placed, passed_over, pairs-long, pairs-append}
use Rattle.order_map.proofs.Sound.{Sound, some_none, keys-count, sound-pop, pop-count}

slot_of : (o : Option ℕ) (place : Place) → option_map place_at o ≡ Some place → o ≡ Some place.at
slot_of None place e = search rules
slot_of (Some s) place e = ap (λ p. Some p.at) (same_some _ _ e)

module _ {V : Type 0} where
  pub found_in : (es : List (Entry V)) (n : ℕ) (m : MapView V) (key : Key) (slot : ℕ) → map_view es n ≡ m → IsTrue (all_distinct (keys_of (pairs_in es))) → holds key (slice_get m.entries slot) ≡ true → Found key es slot
  found_in es n m key slot e d h = found key es slot d (subst (λ m. holds key (slice_get m.entries slot) ≡ true) (sym e) h)

  -- the entry at a key's slot, and what it becomes
  pub now_is : (es : List (Entry V)) (slot : ℕ) (key : Key) (f : Found key es slot) (old : Entry V) → old ≡ get_or es slot old → old ≡ entry f.at (Some f.value)
  now_is es slot key f old g = same_some _ _ (sym (got es slot old f.inside g) ∙ f.entry_is)

  pub changed : (es : List (Entry V)) (slot : ℕ) (key : Key) (f : Found key es slot) (old new : Entry V) (v : Option V) → old ≡ get_or es slot old → new ≡ entry old.key v → new ≡ entry f.at v
  changed es slot key f old new v g e = e ∙ ap (λ x. entry x.key v) (now_is es slot key f old g)

  pub stays : (es : List (Entry V)) (p c n : ℕ) (h l : List ℕ) (key : Key) (slot : ℕ) → Sound es p c n h l → Found key es slot → next_after key n ≡ n
  stays es p c n h l key slot s f = next_after-there key (pairs_in es) n s.below (some_none f.value (look key (pairs_in es)) f.look_is)

  -- ---- places

  pub placed_in : (es : List (Entry V)) (n : ℕ) (m : MapView V) (i : ℕ) (place : Place) → map_view es n ≡ m → place_of m i ≡ Some place → Placed 0 es i place.at
  unfolding place_of
  placed_in es n m i place e h = placed 0 es i place.at (slot_of (slice_get (full_slots 0 es) i) place (subst (λ m. place_of m i ≡ Some place) (sym e) h))

  pub placed_inside : (es : List (Entry V)) (i p : ℕ) → Placed 0 es i p → p < length es
  placed_inside es i p f = let l = get-inside es f.past (entry f.key (Some f.value)) f.entry_is in let e = f.is in omega arith

  pub entry_placed : (es : List (Entry V)) (i p : ℕ) (f : Placed 0 es i p) (a : ℕ) (x : Entry V) → a ≡ p → x ≡ get_or es a x → x ≡ entry f.key (Some f.value)
  entry_placed es i p f a x q g =
      let l = placed_inside es i p f in
      let t : a ≡ f.past = let e = f.is in omega arith in
      same_some _ _ (sym (got es a x (omega arith) g) ∙ ap (slice_get es) t ∙ f.entry_is)

  pub first_place : (es xs : List (Entry V)) (p n : ℕ) (m : MapView V) (r : Option ℕ) → map_view es n ≡ m → xs ≡ es → pairs_in (take p es) ≡ [] → r ≡ slice_get (full_slots p (drop p xs)) 0 → option_map place_at r ≡ place_of m 0
  unfolding place_of
  first_place es xs p n m r e x f q =
      let z : 0 + p ≡ p = omega arith in
      ap (option_map place_at) (q ∙ ap (λ l. slice_get (full_slots p (drop p l)) 0) x ∙ ap (λ n. slice_get (full_slots n (drop p es)) 0) (sym z) ∙ ap (λ l. slice_get l 0) (sym (passed_over 0 p es f))) ∙ ap (λ m. place_of m 0) e

  pub next_place : (es xs : List (Entry V)) (n : ℕ) (m : MapView V) (i : ℕ) (place : Place) (a : ℕ) (r : Option ℕ) → map_view es n ≡ m → xs ≡ es → a ≡ place.at → place_of m i ≡ Some place
      → r ≡ slice_get (full_slots (a + 1) (drop (a + 1) xs)) 0 → option_map place_at r ≡ place_of m (i + 1)
  unfolding place_of
  next_place es xs n m i place a r e x q h w =
      let f = placed_in es n m i place e h in
      let u : a + 1 ≡ suc place.at = omega arith in
      let v : a + 1 ≡ suc f.past = let b = f.is in omega arith in
      let t : suc i ≡ i + 1 = omega arith in
      ap (option_map place_at) (w ∙ ap (λ l. slice_get (full_slots (a + 1) (drop (a + 1) l)) 0) x ∙ (λ j. slice_get (full_slots (u j) (drop (v j) es)) 0) ∙ sym f.after ∙ ap (slice_get (full_slots 0 es)) t) ∙ ap (λ m. place_of m (i + 1)) e

  -- ---- the last entry

  pub index_push : (heads links : List ℕ) (es : List (Entry V)) (x : Entry V) (s : ℕ) → s ≡ length es → IsIndex heads links (slots_of es) → 0 < length heads → IsLinked (length heads) heads links (slots_of (es ++ x ∷ [])) s
  index_push heads links es x s e is p =
      let t : length (slots_of es) ≡ s = slots-long es ∙ sym e in
      subst (λ n. IsLinked (length heads) heads links (slots_of (es ++ x ∷ [])) n) t (subst (λ ks. IsLinked (length heads) heads links ks (length (slots_of es))) (sym (slots-push es x)) (linked-push (length heads) heads links (slots_of es) x.key (is p)))

  pub index_pop : (heads links : List ℕ) (es fs : List (Entry V)) (x : Entry V) (s : ℕ) → es ≡ fs ++ x ∷ [] → length es ≡ s + 1 → (0 < length heads → IsLinked (length heads) heads links (slots_of es) s) → IsIndex heads links (slots_of fs)
  index_pop heads links es fs x s e l is = λ p.
      let z = slots-long fs in
      let a = ap length e in
      let t : s ≡ length (slots_of fs) = grind (arith, length-append {A = Entry V}) in
      linked-front (length heads) heads links (slots_of fs) x.key (subst (λ n. IsLinked (length heads) heads links (slots_of fs ++ x.key ∷ []) n) t (subst (λ ks. IsLinked (length heads) heads links ks s) (ap slots_of e ∙ slots-push fs x) (is p)))

  last_is : (es fs : List (Entry V)) (r : Option (Entry V)) (x : Entry V) → es ≡ fs ++ option_to_list r → r ≡ Some x → es ≡ fs ++ x ∷ []
  last_is es fs r x e q = e ∙ ap (λ o. fs ++ option_to_list o) q

  pub sound-popped : (es fs : List (Entry V)) (r : Option (Entry V)) (x : Entry V) (s p c n : ℕ) (h l h' l' : List ℕ) → es ≡ fs ++ option_to_list r → r ≡ Some x → length es ≡ s + 1 → Sound es p c n h l
      → (0 < length h' → IsLinked (length h') h' l' (slots_of es) s) → Sound fs p (c - held x.value) n h' l'
  sound-popped es fs r x s p c n h l h' l' e q long sound is =
      let k = last_is es fs r x e q in
      sound-pop fs x p c n h l h' l' (subst (λ es. Sound es p c n h l) k sound) (index_pop h' l' es fs x s k long is)

  ends : (es : List (Entry V)) (s : ℕ) → length es ≡ suc s → (fs : List (Entry V)) × (x : Entry V) × (es ≡ fs ++ x ∷ []) × (length fs ≡ s)
  ends [] s l = absurd (omega arith)
  ends (x ∷ []) zero l = ([], x, refl, refl)
  ends (x ∷ y ∷ es) zero l = absurd (omega arith)
  ends (x ∷ []) (suc s) l = absurd (omega arith)
  ends (x ∷ y ∷ es) (suc s) l = let t = ends (y ∷ es) s (omega arith) in (x ∷ t.0, t.1, ap (λ l. x ∷ l) t.2, ap suc t.3)

  pub held-count : (es : List (Entry V)) (x : Entry V) (s p c n : ℕ) (h l : List ℕ) → length es ≡ s + 1 → slice_get es s ≡ Some x → Sound es p c n h l → held x.value ≤ c
  held-count es x s p c n h l long g sound =
      let t = ends es s (omega arith) in
      let a : Some t.1 ≡ Some x = sym (get-last t.0 t.1) ∙ ap (slice_get (t.0 ++ t.1 ∷ [])) t.3 ∙ ap (λ l. slice_get l s) (sym t.2) ∙ g in
      subst (λ y. held y.value ≤ c) (same_some _ _ a) (pop-count t.0 t.1 p c n h l (subst (λ es. Sound es p c n h l) t.2 sound))

  pub count-long : (es : List (Entry V)) (p c n : ℕ) (h l : List ℕ) → Sound es p c n h l → c ≤ length es
  count-long es p c n h l s = let a = keys-count (pairs_in es) in let b = pairs-long es in let q = s.counted in omega arith

  pub pop-some : (es fs : List (Entry V)) (x : Entry V) (v : V) → es ≡ fs ++ x ∷ [] → x.value ≡ Some v → pairs_in es ≡ pairs_in fs ++ (x.key, v) ∷ []
  pop-some es fs x v e q = ap pairs_in e ∙ pairs-append fs (x ∷ []) ∙ ap (λ o. pairs_in fs ++ with_pair x.key o []) q

  pub pop-none : (es fs : List (Entry V)) (x : Entry V) → es ≡ fs ++ x ∷ [] → x.value ≡ None → pairs_in fs ≡ pairs_in es
  pop-none es fs x e q = sym (ap pairs_in e ∙ pairs-append fs (x ∷ []) ∙ ap (λ o. pairs_in fs ++ with_pair x.key o []) q ∙ append-nil (pairs_in fs))
