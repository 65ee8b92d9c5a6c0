-- Keys: which are the same, distinct ones, and ones below a bound.
use Rattle.std.proofs.Common.{rules, ◌≡◌, ℕ, Bool, true, false, not, ◌&&◌, ◌||◌, List, [], ◌∷◌, ◌++◌, ◌<◌, ◌≤◌, pos, negsuc, refl, subst, sym, ap, ◌∙◌, Option, Some, None, arith, if◌then◌else◌, IsTrue, Decides, ◌≢◌}
use Rattle.std.proofs.lemmas.Bool.Decides.{nat_tests, Decides-int_eq, same_from_decides}
use Rattle.std.proofs.lemmas.Slice.Eq.{bytes_eq-Decides}
use Rattle.order_map.specs.declared.key.Key.{Key}
use Rattle.order_map.specs.declared.key.Key.TheVariants.{Int, Text}
use Rattle.order_map.specs.Keys.{same_key, has_key, all_distinct, is_below, all_below, next_after}
use Rattle.order_map.specs.Hashes.{key_hash}
use Rattle.order_map.specs.Arrays.{keys_of, look, put, without}

pub and_left : (a b : Bool) → IsTrue (a && b) → IsTrue a
and_left true b h = refl
and_left false b h = h

pub and_right : (a b : Bool) → IsTrue (a && b) → IsTrue b
and_right true b h = h
and_right false b h = search rules

pub and_both : (a b : Bool) → IsTrue a → IsTrue b → IsTrue (a && b)
and_both a b g h = rw g h

pub or_no : (a b : Bool) → (a || b) ≡ false → (a ≡ false) × (b ≡ false)
or_no true b h = search rules
or_no false b h = (refl, h)

pub no_or : (a b : Bool) → a ≡ false → b ≡ false → (a || b) ≡ false
no_or a b g h = rw g h

pub not_false : (a : Bool) → IsTrue (not a) → a ≡ false
not_false true h = search rules
not_false false h = refl

pub not_from_decides : {P : Type 0} (b : Bool) → Decides b P → (P → ⊥) → b ≡ false
not_from_decides true d h = absurd (h (d.0 refl))
not_from_decides false d h = refl

pub is_below-more : (key : Key) (m n : ℕ) → m ≤ n → IsTrue (is_below m key) → IsTrue (is_below n key)
is_below-more (Int (pos k)) m n l h = grind (arith, nat_tests)
is_below-more (Int (negsuc k)) m n l h = refl
is_below-more (Text t) m n l h = refl

pub all_below-more : (ks : List Key) (m n : ℕ) → m ≤ n → IsTrue (all_below m ks) → IsTrue (all_below n ks)
all_below-more [] m n l h = refl
all_below-more (k ∷ ks) m n l h = and_both _ _ (is_below-more k m n l (and_left _ _ h)) (all_below-more ks m n l (and_right _ _ h))

pub all_below-push : (ks : List Key) (k : Key) (n : ℕ) → IsTrue (all_below n ks) → IsTrue (is_below n k) → IsTrue (all_below n (ks ++ k ∷ []))
all_below-push [] k n h b = and_both _ _ b refl
all_below-push (j ∷ ks) k n h b = and_both _ _ (and_left _ _ h) (all_below-push ks k n (and_right _ _ h) b)

pub next_after-ge : (k : Key) (n : ℕ) → n ≤ next_after k n
next_after-ge (Int (pos m)) n = omega arith
next_after-ge (Int (negsuc m)) n = omega arith
next_after-ge (Text t) n = omega arith

pub next_after-above : (k : Key) (n : ℕ) → IsTrue (is_below (next_after k n) k)
next_after-above (Int (pos m)) n = grind (arith, nat_tests)
next_after-above (Int (negsuc m)) n = refl
next_after-above (Text t) n = refl

pub not_true : (a : Bool) → a ≡ false → IsTrue (not a)
not_true a h = ap not h

-- two keys are the same exactly where they are equal
pub same_key-Decides : (a b : Key) → Decides (same_key a b) (a ≡ b)
same_key-Decides (Int a) (Int b) = let d = Decides-int_eq a b in ((λ e. ap Int (d.0 e)), (λ e. d.1 (cc)))
same_key-Decides (Int a) (Text t) = ((λ e. search (rules, e)), (λ e. cc))
same_key-Decides (Text s) (Int b) = ((λ e. search (rules, e)), (λ e. cc))
same_key-Decides (Text s) (Text t) = let d = bytes_eq-Decides s t in ((λ e. ap Text (d.0 e)), (λ e. d.1 (cc)))

-- the same keys hash alike
pub same_hash : (a b : Key) → IsTrue (same_key a b) → key_hash b ≡ key_hash a
same_hash a b h = ap key_hash (sym ((same_key-Decides a b).0 h))

same_key-sym : (a b : Key) → same_key a b ≡ same_key b a
same_key-sym a b = same_from_decides _ _ (same_key-Decides a b) ((λ e. sym ((same_key-Decides b a).0 e)), (λ e. (same_key-Decides b a).1 (sym e)))

has_key-push : (key k : Key) (ks : List Key) → has_key key ks ≡ false → same_key k key ≡ false → has_key key (ks ++ k ∷ []) ≡ false
has_key-push key k [] h d = no_or _ _ d refl
has_key-push key k (j ∷ ks) h d = let w = or_no (same_key j key) _ h in no_or _ _ w.0 (has_key-push key k ks w.1 d)

pub all_distinct-push : (ks : List Key) (k : Key) → IsTrue (all_distinct ks) → has_key k ks ≡ false → IsTrue (all_distinct (ks ++ k ∷ []))
all_distinct-push [] k h n = refl
all_distinct-push (j ∷ ks) k h n =
    let w = or_no (same_key j k) _ n in
    and_both _ _ (not_true _ (has_key-push j k ks (not_false _ (and_left _ _ h)) (same_key-sym k j ∙ w.0))) (all_distinct-push ks k (and_right (not (has_key j ks)) _ h) w.1)

pub next_after-below : (k : Key) (n : ℕ) → IsTrue (is_below n k) → next_after k n ≡ n
next_after-below (Int (pos k)) n h = grind (arith, nat_tests)
next_after-below (Int (negsuc k)) n h = refl
next_after-below (Text t) n h = refl

pub below_not : (k : Key) (n : ℕ) → IsTrue (is_below n k) → same_key k (Int (pos n)) ≡ false
below_not (Int (pos k)) n h = not_from_decides _ (same_key-Decides (Int (pos k)) (Int (pos n))) (λ e. let l : k < n = grind (arith, nat_tests) in let q : k ≡ n = cc in absurd (omega arith))
below_not (Int (negsuc k)) n h = not_from_decides _ (same_key-Decides (Int (negsuc k)) (Int (pos n))) (λ e. cc)
below_not (Text t) n h = refl

pub all_below-front : (ks : List Key) (k : Key) (n : ℕ) → IsTrue (all_below n (ks ++ k ∷ [])) → IsTrue (all_below n ks)
all_below-front [] k n h = refl
all_below-front (j ∷ ks) k n h = and_both _ _ (and_left _ _ h) (all_below-front ks k n (and_right (is_below n j) _ h))

has_key-front : (key : Key) (ks : List Key) (k : Key) → has_key key (ks ++ k ∷ []) ≡ false → has_key key ks ≡ false
has_key-front key [] k h = refl
has_key-front key (j ∷ ks) k h = let w = or_no (same_key j key) _ h in no_or _ _ w.0 (has_key-front key ks k w.1)

pub all_distinct-front : (ks : List Key) (k : Key) → IsTrue (all_distinct (ks ++ k ∷ [])) → IsTrue (all_distinct ks)
all_distinct-front [] k h = refl
all_distinct-front (j ∷ ks) k h = and_both _ _ (not_true _ (has_key-front j ks k (not_false _ (and_left _ _ h)))) (all_distinct-front ks k (and_right (not (has_key j (ks ++ k ∷ []))) _ h))

-- ---- pairs

module _ {V : Type 0} where
  none_head : (b : Bool) (v : V) (o : Option V) (r : Bool) → (if b then Some v else o) ≡ None → (o ≡ None → r ≡ false) → (b || r) ≡ false
  none_head true v o r h ih = search rules
  none_head false v o r h ih = ih h

  -- a key that is not among those of some pairs
  pub look-none : (key : Key) (ps : List (Key × V)) → look key ps ≡ None → has_key key (keys_of ps) ≡ false
  look-none key [] h = refl
  look-none key (p ∷ ps) h = none_head (same_key p.0 key) p.1 (look key ps) (has_key key (keys_of ps)) h (look-none key ps)

  -- the next key is free
  pub look-next : (n : ℕ) (ps : List (Key × V)) → IsTrue (all_below n (keys_of ps)) → look (Int (pos n)) ps ≡ None
  look-next n [] h = refl
  look-next n (p ∷ ps) h = ap (λ b. if b then Some p.1 else look (Int (pos n)) ps) (below_not p.0 n (and_left _ _ h)) ∙ look-next n ps (and_right (is_below n p.0) _ h)

  below_step : (b : Bool) (key k : Key) (v : V) (ps : List (Key × V)) (n : ℕ) → IsTrue (is_below n k) → IsTrue (all_below n (keys_of ps)) → IsTrue (all_below n (keys_of (without key ps)))
      → IsTrue (all_below n (keys_of (if b then ps else (k, v) ∷ without key ps)))
  below_step true key k v ps n h t ih = t
  below_step false key k v ps n h t ih = and_both _ _ h ih

  pub all_below-without : (key : Key) (ps : List (Key × V)) (n : ℕ) → IsTrue (all_below n (keys_of ps)) → IsTrue (all_below n (keys_of (without key ps)))
  all_below-without key [] n h = refl
  all_below-without key (p ∷ ps) n h =
      let t = and_right (is_below n p.0) _ h in below_step (same_key p.0 key) key p.0 p.1 ps n (and_left _ _ h) t (all_below-without key ps n t)

  has_step : (b : Bool) (q key k : Key) (v : V) (ps : List (Key × V)) → same_key k q ≡ false → has_key q (keys_of ps) ≡ false → has_key q (keys_of (without key ps)) ≡ false
      → has_key q (keys_of (if b then ps else (k, v) ∷ without key ps)) ≡ false
  has_step true q key k v ps s h ih = h
  has_step false q key k v ps s h ih = no_or _ _ s ih

  has_key-without : (q key : Key) (ps : List (Key × V)) → has_key q (keys_of ps) ≡ false → has_key q (keys_of (without key ps)) ≡ false
  has_key-without q key [] h = refl
  has_key-without q key (p ∷ ps) h = let w = or_no (same_key p.0 q) _ h in has_step (same_key p.0 key) q key p.0 p.1 ps w.0 w.1 (has_key-without q key ps w.1)

  distinct_step : (b : Bool) (key k : Key) (v : V) (ps : List (Key × V)) → IsTrue (not (has_key k (keys_of ps))) → IsTrue (all_distinct (keys_of ps)) → IsTrue (all_distinct (keys_of (without key ps)))
      → IsTrue (all_distinct (keys_of (if b then ps else (k, v) ∷ without key ps)))
  distinct_step true key k v ps h t ih = t
  distinct_step false key k v ps h t ih = and_both _ _ (not_true _ (has_key-without k key ps (not_false _ h))) ih

  pub all_distinct-without : (key : Key) (ps : List (Key × V)) → IsTrue (all_distinct (keys_of ps)) → IsTrue (all_distinct (keys_of (without key ps)))
  all_distinct-without key [] h = refl
  all_distinct-without key (p ∷ ps) h =
      let t = and_right (not (has_key p.0 (keys_of ps))) _ h in distinct_step (same_key p.0 key) key p.0 p.1 ps (and_left _ _ h) t (all_distinct-without key ps t)

  put_step : (b : Bool) (key k : Key) (v x : V) (ps : List (Key × V)) → (if b then Some x else look key ps) ≢ None → (look key ps ≢ None → keys_of (put key v ps) ≡ keys_of ps)
      → keys_of (if b then (k, v) ∷ ps else (k, x) ∷ put key v ps) ≡ k ∷ keys_of ps
  put_step true key k v x ps h ih = refl
  put_step false key k v x ps h ih = ap (λ l. k ∷ l) (ih h)

  -- a key that is there leaves the keys as they are
  pub keys-put : (key : Key) (v : V) (ps : List (Key × V)) → look key ps ≢ None → keys_of (put key v ps) ≡ keys_of ps
  keys-put key v [] h = absurd (h refl)
  keys-put key v (p ∷ ps) h = put_step (same_key p.0 key) key p.0 v p.1 ps h (keys-put key v ps)

  there_step : (b : Bool) (key k : Key) (x : V) (o : Option V) (n : ℕ) → same_key k key ≡ b → IsTrue (is_below n k) → (if b then Some x else o) ≢ None
      → (o ≢ None → next_after key n ≡ n) → next_after key n ≡ n
  there_step true key k x o n b h e ih = next_after-below key n (subst (λ q. IsTrue (is_below n q)) ((same_key-Decides k key).0 b) h)
  there_step false key k x o n b h e ih = ih e

  -- a key that is there does not raise the next one
  pub next_after-there : (key : Key) (ps : List (Key × V)) (n : ℕ) → IsTrue (all_below n (keys_of ps)) → look key ps ≢ None → next_after key n ≡ n
  next_after-there key [] n h e = absurd (e refl)
  next_after-there key (p ∷ ps) n h e = there_step (same_key p.0 key) key p.0 p.1 (look key ps) n refl (and_left _ _ h) e (next_after-there key ps n (and_right (is_below n p.0) _ h))
