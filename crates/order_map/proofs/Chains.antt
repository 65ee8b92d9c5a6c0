-- Buckets, and the chains of slots that they lead to.
use Rattle.std.proofs.Common.{rules, arith, ◌≡◌, ℕ, zero, suc, ◌+◌, ◌<◌, ◌≤◌, Bool, true, false, ◌==◌, ◌&&◌, ◌-◌, bit_and, List, [], ◌∷◌, ◌++◌, refl, sym, ap, ◌∙◌, subst, ◌⊎◌, inl, inr, ⊎_elim, eq-or-lt_of_le, Some, is_some, length, slice_get, slice_set, replicate, if◌then◌else◌}
use lib.Bits.{and_le_r}
use Rattle.std.proofs.lemmas.Bool.Decides.{nat_tests}
use Rattle.order_map.specs.declared.key.Key.{Key}
use Rattle.order_map.specs.declared.entry.Entry.{Entry}
use Rattle.order_map.specs.Keys.{same_key}
use Rattle.order_map.specs.Hashes.{bucket_of}
use Rattle.order_map.specs.Chains.{falls_into, newest, IsLinked, IsIndex, slots_of, holds}
use Rattle.order_map.proofs.Lists.{set-here, set-there, set-long, get-front, get-past, get-replicated}
use Rattle.order_map.proofs.Keys.{same_key-Decides}

is_it : (m n : ℕ) → m ≡ n → (m == n) ≡ true
is_it m n e = grind (arith, nat_tests)

not_case : (b : Bool) (m n : ℕ) → (m == n) ≡ b → (m ≡ n → ⊥) → b ≡ false
not_case true m n e h = absurd (h (grind (arith, nat_tests)))
not_case false m n e h = refl

is_not : (m n : ℕ) → (m ≡ n → ⊥) → (m == n) ≡ false
is_not m n h = not_case (m == n) m n refl h

it_is : (m n : ℕ) → (m == n) ≡ true → m ≡ n
it_is m n e = grind (arith, nat_tests)

differs : (m n : ℕ) → m ≡ n → (m == n) ≡ false → ⊥
differs m n e f = let t = is_it m n e in search (rules, t, f)

le_of : (j i : ℕ) → j < suc i → j ≤ i
le_of j i l = omega arith

below : (s i : ℕ) → (s ≡ i → ⊥) → i < suc s → i < s
below s i n u = ⊎_elim (λ q. absurd (n (sym q))) (λ q. q) (eq-or-lt_of_le (le_of i s u))

some_is : {X : Type 0} (x y : X) → Some x ≡ Some y → x ≡ y
some_is x y e = cc

pub bucket_within : (h c : ℕ) → 0 < c → bit_and h (c - 1) < c
bucket_within h c l = let m = and_le_r h (c - 1) in omega arith

-- ---- the newest slot of a bucket

module _ (c b : ℕ) where
  pub newest-push : (ks : List Key) (k : Key) (i : ℕ) → i ≤ length ks → newest c b (ks ++ k ∷ []) i ≡ newest c b ks i
  newest-push ks k zero h = refl
  newest-push ks k (suc i) h = λ j. if falls_into c b (get-front ks k i (omega arith) j) then suc i else newest-push ks k i (omega arith) j

  le_step : (t : Bool) (i n : ℕ) → n ≤ i → (if t then suc i else n) ≤ suc i
  le_step true i n h = omega arith
  le_step false i n h = omega arith

  pub newest-le : (ks : List Key) (i : ℕ) → newest c b ks i ≤ i
  newest-le ks zero = omega arith
  newest-le ks (suc i) = le_step (falls_into c b (slice_get ks i)) i (newest c b ks i) (newest-le ks i)

  none_step : (t : Bool) (ks : List Key) (i j : ℕ) → falls_into c b (slice_get ks i) ≡ t → (if t then suc i else newest c b ks i) ≤ j → j < suc i
      → (newest c b ks i ≤ j → j < i → falls_into c b (slice_get ks j) ≡ false) → falls_into c b (slice_get ks j) ≡ false
  none_step true ks i j e h l ih = absurd (omega arith)
  none_step false ks i j e h l ih = ⊎_elim (λ q. ap (λ n. falls_into c b (slice_get ks n)) q ∙ e) (λ q. ih h q) (eq-or-lt_of_le (le_of j i l))

  -- the slots from the newest one on to the bound fall elsewhere
  pub newest-none : (ks : List Key) (i j : ℕ) → newest c b ks i ≤ j → j < i → falls_into c b (slice_get ks j) ≡ false
  newest-none ks zero j h l = absurd (omega arith)
  newest-none ks (suc i) j h l = none_step (falls_into c b (slice_get ks i)) ks i j refl h l (newest-none ks i j)

  falls_step : (t : Bool) (ks : List Key) (i s : ℕ) → falls_into c b (slice_get ks i) ≡ t → (if t then suc i else newest c b ks i) ≡ suc s
      → (newest c b ks i ≡ suc s → falls_into c b (slice_get ks s) ≡ true) → falls_into c b (slice_get ks s) ≡ true
  falls_step true ks i s t e ih = let q : s ≡ i = omega arith in ap (λ n. falls_into c b (slice_get ks n)) q ∙ t
  falls_step false ks i s t e ih = ih e

  -- the newest slot falls into the bucket
  pub newest-falls : (ks : List Key) (i s : ℕ) → newest c b ks i ≡ suc s → falls_into c b (slice_get ks s) ≡ true
  newest-falls ks zero s e = absurd (omega arith)
  newest-falls ks (suc i) s e = falls_step (falls_into c b (slice_get ks i)) ks i s refl e (newest-falls ks i s)

  again_step : (t : Bool) (ks : List Key) (i : ℕ) → falls_into c b (slice_get ks i) ≡ t → newest c b ks (newest c b ks i) ≡ newest c b ks i
      → newest c b ks (if t then suc i else newest c b ks i) ≡ (if t then suc i else newest c b ks i)
  again_step true ks i e ih = ap (λ t. if t then suc i else newest c b ks i) e
  again_step false ks i e ih = ih

  pub newest-again : (ks : List Key) (i : ℕ) → newest c b ks (newest c b ks i) ≡ newest c b ks i
  newest-again ks zero = refl
  newest-again ks (suc i) = again_step (falls_into c b (slice_get ks i)) ks i refl (newest-again ks i)

-- ---- links

module _ (c : ℕ) (ks : List Key) (s : ℕ) (k : Key) (at : slice_get ks s ≡ Some k) where
  newest_in : (b : ℕ) → bucket_of c k ≡ b → newest c b ks (suc s) ≡ suc s
  newest_in b e = ap (λ o. if falls_into c b o then suc s else newest c b ks s) at ∙ ap (λ t. if t then suc s else newest c b ks s) (is_it _ _ e)

  newest_out : (b : ℕ) → (bucket_of c k ≡ b → ⊥) → newest c b ks (suc s) ≡ newest c b ks s
  newest_out b n = ap (λ o. if falls_into c b o then suc s else newest c b ks s) at ∙ ap (λ t. if t then suc s else newest c b ks s) (is_not _ _ n)

  head_step : (heads : List ℕ) (b : ℕ) (t : Bool) → (bucket_of c k == b) ≡ t → bucket_of c k < length heads → slice_get heads b ≡ Some (newest c b ks s)
      → slice_get (slice_set heads (bucket_of c k) (suc s)) b ≡ Some (newest c b ks (suc s))
  head_step heads b true t l e = let q = it_is _ _ t in ap (λ n. slice_get (slice_set heads (bucket_of c k) (suc s)) n) (sym q) ∙ set-here heads (bucket_of c k) (suc s) l ∙ ap Some (sym (newest_in b q))
  head_step heads b false t l e = let q : bucket_of c k ≡ b → ⊥ = λ p. differs _ _ p t in set-there heads (bucket_of c k) b (suc s) q ∙ e ∙ ap Some (sym (newest_out b q))

  link_step : (links : List ℕ) (h i : ℕ) (j : Key) (t : Bool) → (s == i) ≡ t → s < length links → h ≡ newest c (bucket_of c k) ks s → i < suc s → slice_get ks i ≡ Some j
      → (i < s → slice_get links i ≡ Some (newest c (bucket_of c j) ks i)) → slice_get (slice_set links s h) i ≡ Some (newest c (bucket_of c j) ks i)
  link_step links h i j true t l e u a ih =
      let q = it_is s i t in
      let p : k ≡ j = some_is _ _ (sym at ∙ ap (slice_get ks) q ∙ a) in
      ap (λ n. slice_get (slice_set links s h) n) (sym q) ∙ set-here links s h l ∙ ap Some e ∙ (λ x. Some (newest c (bucket_of c (p x)) ks (q x)))
  link_step links h i j false t l e u a ih =
      let n : s ≡ i → ⊥ = λ p. differs _ _ p t in set-there links s i h n ∙ ih (below s i n u)

  -- a slot is linked
  pub linked-more : (heads links : List ℕ) (h : ℕ) → bucket_of c k < c → c ≡ length heads → s < length links → slice_get heads (bucket_of c k) ≡ Some h → IsLinked c heads links ks s
      → IsLinked c (slice_set heads (bucket_of c k) (suc s)) (slice_set links s h) ks (suc s)
  linked-more heads links h l m r e is =
      let w = some_is _ _ (sym e ∙ is.heads_lead (bucket_of c k) l) in
      record {
        room = let z = set-long links s h in omega arith;
        heads_lead = λ b v. head_step heads b (bucket_of c k == b) refl (omega arith) (is.heads_lead b v);
        links_lead = λ i j u a. link_step links h i j (s == i) refl r w u a (λ v. is.links_lead i j v a);
      }

  back_step : (heads : List ℕ) (h b : ℕ) (t : Bool) → (bucket_of c k == b) ≡ t → bucket_of c k < length heads → h ≡ newest c (bucket_of c k) ks s → slice_get heads b ≡ Some (newest c b ks (suc s))
      → slice_get (slice_set heads (bucket_of c k) h) b ≡ Some (newest c b ks s)
  back_step heads h b true t l w e = let q = it_is _ _ t in ap (λ n. slice_get (slice_set heads (bucket_of c k) h) n) (sym q) ∙ set-here heads (bucket_of c k) h l ∙ ap Some w ∙ ap (λ n. Some (newest c n ks s)) q
  back_step heads h b false t l w e = let q : bucket_of c k ≡ b → ⊥ = λ p. differs _ _ p t in set-there heads (bucket_of c k) b h q ∙ e ∙ ap Some (newest_out b q)

  -- the last slot is unlinked
  pub linked-less : (heads links : List ℕ) (h : ℕ) → bucket_of c k < c → c ≡ length heads → slice_get links s ≡ Some h → IsLinked c heads links ks (suc s)
      → IsLinked c (slice_set heads (bucket_of c k) h) links ks s
  linked-less heads links h l m e is =
      let w = some_is _ _ (sym e ∙ is.links_lead s k (omega arith) at) in
      record {
        room = let z = is.room in omega arith;
        heads_lead = λ b v. back_step heads h b (bucket_of c k == b) refl (omega arith) w (is.heads_lead b v);
        links_lead = λ i j u a. is.links_lead i j (omega arith) a;
      }

-- a key behind the others changes nothing below it
pub linked-push : (c : ℕ) (heads links : List ℕ) (ks : List Key) (k : Key) → IsLinked c heads links ks (length ks) → IsLinked c heads links (ks ++ k ∷ []) (length ks)
linked-push c heads links ks k is = record {
  room = is.room;
  heads_lead = λ b l. is.heads_lead b l ∙ ap Some (sym (newest-push c b ks k (length ks) (omega arith)));
  links_lead = λ i j u a. is.links_lead i j u (sym (get-front ks k i u) ∙ a) ∙ ap Some (sym (newest-push c (bucket_of c j) ks k i (omega arith)));
}

pub linked-front : (c : ℕ) (heads links : List ℕ) (ks : List Key) (k : Key) → IsLinked c heads links (ks ++ k ∷ []) (length ks) → IsLinked c heads links ks (length ks)
linked-front c heads links ks k is = record {
  room = is.room;
  heads_lead = λ b l. is.heads_lead b l ∙ ap Some (newest-push c b ks k (length ks) (omega arith));
  links_lead = λ i j u a. is.links_lead i j u (get-front ks k i u ∙ a) ∙ ap Some (newest-push c (bucket_of c j) ks k i (omega arith));
}

-- empty buckets lead to no slot
pub linked-none : (c : ℕ) (links : List ℕ) (ks : List Key) → IsLinked c (replicate c 0) links ks 0
linked-none c links ks = record {
  room = omega arith;
  heads_lead = λ b l. get-replicated c b 0 l;
  links_lead = λ i j u a. absurd (omega arith);
}

-- ---- the search for a key

same_step : (a t : Bool) (c : ℕ) (key k : Key) → same_key k key ≡ t → (bucket_of c k == bucket_of c key) ≡ false → (a && t) ≡ false
same_step false t c key k e f = refl
same_step true true c key k e f = let q : k ≡ key = (same_key-Decides k key).0 e in absurd (differs _ _ (ap (bucket_of c) q) f)
same_step true false c key k e f = refl

pub in_or_past : (i n : ℕ) → (i < n) ⊎ (n ≤ i)
in_or_past i zero = inr (omega arith)
in_or_past zero (suc n) = inl (omega arith)
in_or_past (suc i) (suc n) = ⊎_elim (λ u. inl (omega arith)) (λ u. inr (omega arith)) (in_or_past i n)

module _ {V : Type 0} where
  pub slots-long : (es : List (Entry V)) → length (slots_of es) ≡ length es
  slots-long [] = refl
  slots-long (e ∷ es) = ap suc (slots-long es)

  pub slot-key : (es : List (Entry V)) (i : ℕ) (e : Entry V) → slice_get es i ≡ Some e → slice_get (slots_of es) i ≡ Some e.key
  slot-key [] i e h = search rules
  slot-key (x ∷ es) zero e h = let q : x ≡ e = some_is _ _ h in ap (λ x. Some x.key) q
  slot-key (x ∷ es) (suc i) e h = slot-key es i e h

  pub slots-push : (es : List (Entry V)) (e : Entry V) → slots_of (es ++ e ∷ []) ≡ slots_of es ++ e.key ∷ []
  slots-push [] e = refl
  slots-push (x ∷ es) e = ap (λ l. x.key ∷ l) (slots-push es e)

  pub slots-set : (es : List (Entry V)) (i : ℕ) (x e : Entry V) → slice_get es i ≡ Some x → e.key ≡ x.key → slots_of (slice_set es i e) ≡ slots_of es
  slots-set [] i x e h k = refl
  slots-set (y ∷ es) zero x e h k = let q : y ≡ x = some_is _ _ h in ap (λ j. j ∷ slots_of es) (k ∙ ap (λ x. x.key) (sym q))
  slots-set (y ∷ es) (suc i) x e h k = ap (λ l. y.key ∷ l) (slots-set es i x e h k)

  -- a slot that falls elsewhere does not hold a key's pair
  pub falls-holds : (c : ℕ) (key : Key) (es : List (Entry V)) (i : ℕ) → falls_into c (bucket_of c key) (slice_get (slots_of es) i) ≡ false → holds key (slice_get es i) ≡ false
  falls-holds c key [] i h = refl
  falls-holds c key (e ∷ es) zero h = same_step (is_some e.value) (same_key e.key key) c key e.key refl h
  falls-holds c key (e ∷ es) (suc i) h = falls-holds c key es i h

  -- where a search along a chain stands: at 1 and the newest slot below it, and no slot from it on holds the key's pair
  pub record Seeks (c : ℕ) (key : Key) (es : List (Entry V)) (at : ℕ) : Type 0 where
    pub here : at ≡ newest c (bucket_of c key) (slots_of es) at
    pub within : at ≤ length es
    pub none : (i : ℕ) → at ≤ i → holds key (slice_get es i) ≡ false

  past_step : (key : Key) (es : List (Entry V)) (i : ℕ) → length es ≤ i → holds key (slice_get es i) ≡ false
  past_step key es i h = ap (holds key) (get-past es i h)

  pub seek-first : (c : ℕ) (key : Key) (es : List (Entry V)) (at : ℕ) → at ≡ newest c (bucket_of c key) (slots_of es) (length (slots_of es)) → Seeks c key es at
  seek-first c key es at e =
      let l = slots-long es in
      let m = newest-le c (bucket_of c key) (slots_of es) (length (slots_of es)) in
      record {
        here = e ∙ sym (newest-again c (bucket_of c key) (slots_of es) (length (slots_of es))) ∙ ap (newest c (bucket_of c key) (slots_of es)) (sym e);
        within = omega arith;
        none = λ i h. ⊎_elim (λ u. falls-holds c key es i (newest-none c (bucket_of c key) (slots_of es) (length (slots_of es)) i (omega arith) u)) (λ u. past_step key es i (omega arith)) (in_or_past i (length (slots_of es)));
      }

  from_here : (c : ℕ) (key : Key) (es : List (Entry V)) (s at i : ℕ) → at ≡ newest c (bucket_of c key) (slots_of es) s → holds key (slice_get es s) ≡ false → ((j : ℕ) → suc s ≤ j → holds key (slice_get es j) ≡ false) → at ≤ i
      → holds key (slice_get es i) ≡ false
  from_here c key es s at i e here past h =
      ⊎_elim (λ u. falls-holds c key es i (newest-none c (bucket_of c key) (slots_of es) s i (omega arith) u))
      (λ u. ⊎_elim (λ q. ap (λ n. holds key (slice_get es n)) (sym q) ∙ here) (λ q. past i q) (eq-or-lt_of_le u)) (in_or_past i s)

  -- one step along the chain, past a slot that does not hold the key's pair
  pub seek-next : (c : ℕ) (key k : Key) (es : List (Entry V)) (s at : ℕ) → Seeks c key es (suc s) → slice_get (slots_of es) s ≡ Some k → at ≡ newest c (bucket_of c k) (slots_of es) s
      → holds key (slice_get es s) ≡ false → Seeks c key es at
  seek-next c key k es s at is a e miss =
      let f : falls_into c (bucket_of c key) (Some k) ≡ true = ap (falls_into c (bucket_of c key)) (sym a) ∙ newest-falls c (bucket_of c key) (slots_of es) (suc s) s (sym is.here) in
      let w = e ∙ ap (λ b. newest c b (slots_of es) s) (it_is _ _ f) in
      let m = newest-le c (bucket_of c key) (slots_of es) s in
      let l = is.within in
      record {
        here = w ∙ sym (newest-again c (bucket_of c key) (slots_of es) s) ∙ ap (newest c (bucket_of c key) (slots_of es)) (sym w);
        within = omega arith;
        none = λ i h. from_here c key es s at i w miss is.none h;
      }

  -- ---- the same for parts of an index by their names in the code

  pub index_from : (c n : ℕ) (heads links : List ℕ) (es : List (Entry V)) → length heads ≡ c → length es ≡ n → IsLinked c heads links (slots_of es) n → IsIndex heads links (slots_of es)
  index_from c n heads links es e f is = λ p. subst (λ m. IsLinked (length heads) heads links (slots_of es) m) (sym (slots-long es ∙ f)) (subst (λ m. IsLinked m heads links (slots_of es) n) (sym e) is)

  pub links_slot : (heads links : List ℕ) (es : List (Entry V)) (s b n h : ℕ) (e : Entry V) → b ≡ bucket_of n e.key → n ≡ length heads → b < n → slice_get es s ≡ Some e → s < length links → slice_get heads b ≡ Some h
      → IsLinked (length heads) heads links (slots_of es) s → IsLinked (length heads) (slice_set heads b (s + 1)) (slice_set links s h) (slots_of es) (s + 1)
  links_slot heads links es s b n h e q m l g r a is =
      let w : b ≡ bucket_of (length heads) e.key = q ∙ ap (λ n. bucket_of n e.key) m in
      let more = linked-more (length heads) (slots_of es) s e.key (slot-key es s e g) heads links h (omega (arith, w)) refl r (ap (slice_get heads) (sym w) ∙ a) is in
      let t : suc s ≡ s + 1 = omega arith in
      subst (λ x. IsLinked (length heads) (slice_set heads b x) (slice_set links s h) (slots_of es) x) t (subst (λ x. IsLinked (length heads) (slice_set heads x (suc s)) (slice_set links s h) (slots_of es) (suc s)) (sym w) more)

  pub forgets_slot : (heads links : List ℕ) (es : List (Entry V)) (s b n h : ℕ) (e : Entry V) → b ≡ bucket_of n e.key → n ≡ length heads → b < n → slice_get es s ≡ Some e → length es ≡ s + 1 → slice_get links s ≡ Some h
      → 0 < length heads → IsIndex heads links (slots_of es) → IsLinked (length (slice_set heads b h)) (slice_set heads b h) links (slots_of es) s
  forgets_slot heads links es s b n h e q m l g r a p is =
      let w : b ≡ bucket_of (length heads) e.key = q ∙ ap (λ n. bucket_of n e.key) m in
      let t : length (slots_of es) ≡ suc s = let z = slots-long es in omega arith in
      let less = linked-less (length heads) (slots_of es) s e.key (slot-key es s e g) heads links h (omega (arith, w)) refl a (subst (λ x. IsLinked (length heads) heads links (slots_of es) x) t (is p)) in
      subst (λ c. IsLinked c (slice_set heads b h) links (slots_of es) s) (sym (set-long heads b h)) (subst (λ x. IsLinked (length heads) (slice_set heads x h) links (slots_of es) s) (sym w) less)

  pub seeks_from : (heads links : List ℕ) (es : List (Entry V)) (key : Key) (b n at : ℕ) → b ≡ bucket_of n key → n ≡ length heads → b < n → slice_get heads b ≡ Some at → 0 < length heads → IsIndex heads links (slots_of es)
      → Seeks (length heads) key es at
  seeks_from heads links es key b n at q m l g p is =
      let w : b ≡ bucket_of (length heads) key = q ∙ ap (λ n. bucket_of n key) m in
      seek-first (length heads) key es at (some_is _ _ (sym g ∙ ap (slice_get heads) w ∙ (is p).heads_lead (bucket_of (length heads) key) (omega (arith, w))))

  pub seek_step : (heads links : List ℕ) (es : List (Entry V)) (key : Key) (at s h : ℕ) (e : Entry V) → 0 < length heads → IsIndex heads links (slots_of es) → Seeks (length heads) key es at → at ≡ suc s
      → slice_get es s ≡ Some e → slice_get links s ≡ Some h → holds key (Some e) ≡ false → Seeks (length heads) key es h × (h < at)
  seek_step heads links es key at s h e p is seeks q g l n =
      let k = slot-key es s e g in
      let z = slots-long es in
      let v = seeks.within in
      let w = some_is _ _ (sym l ∙ (is p).links_lead s e.key (omega arith) k) in
      let u = newest-le (length heads) (bucket_of (length heads) e.key) (slots_of es) s in
      (seek-next (length heads) key e.key es s h (subst (λ a. Seeks (length heads) key es a) q seeks) k w (ap (holds key) g ∙ n), omega arith)

  pub link-room : (heads links : List ℕ) (es : List (Entry V)) → 0 < length heads → IsIndex heads links (slots_of es) → length es ≤ length links
  link-room heads links es p is = let r = (is p).room in let z = slots-long es in omega arith
