-- What is true of every array's parts stays true of them, step by step.
use Rattle.std.proofs.Common.{rules, arith, ◌≡◌, ◌≢◌, ℕ, zero, suc, ◌+◌, ◌-◌, ◌<◌, ◌≤◌, min, Bool, true, false, cond, List, [], ◌∷◌, ◌++◌, refl, sym, ap, ◌∙◌, subst, Option, Some, None, is_some, length, slice_set, take, filter, if◌then◌else◌, IsTrue, length-append, append-nil}
use Rattle.order_map.specs.declared.key.Key.{Key}
use Rattle.order_map.specs.declared.entry.Entry.{Entry}
use Rattle.order_map.specs.Keys.{same_key, all_distinct, all_below, next_after, spent}
use Rattle.order_map.specs.MapView.{entry}
use Rattle.order_map.specs.Arrays.{with_pair, pairs_in, keys_of, look, without, IsArray, AreCopies}
use Rattle.order_map.specs.Chains.{slots_of, held, IsIndex}
use Rattle.std.specs.List.{AllZip}
use Rattle.order_map.specs.Copies.{IsValueCopy, IsEntryCopy}
use Rattle.order_map.specs.Sound.{IsSound}
use Rattle.order_map.proofs.Keys.{all_below-more, all_below-push, next_after-ge, next_after-above, all_distinct-push, all_below-front, all_distinct-front, look-none, all_below-without, all_distinct-without, keys-put}
use Rattle.order_map.proofs.Chains.{slots-set}
use Rattle.order_map.proofs.Entries.{Found, pairs-append, pairs-kept, keys-none, front-set, front-less, front-push, front-pop}

module _ {V : Type 0} where
  -- the same of entries, so many of which are passed over
  abbrev pub Sound : List (Entry V) → ℕ → ℕ → ℕ → List ℕ → List ℕ → Type 0
  Sound es p c n heads links = IsSound (slots_of es) (keys_of (pairs_in es)) (keys_of (pairs_in (take p es))) c n heads links

  pub some_none : (v : V) (o : Option V) → o ≡ Some v → o ≢ None
  some_none v None e = search (rules, e)
  some_none v (Some w) e = λ q. search (rules, q)

  pub keys-count : (ps : List (Key × V)) → length (keys_of ps) ≡ length ps
  keys-count [] = refl
  keys-count (p ∷ ps) = ap suc (keys-count ps)

  keys-push : (ps : List (Key × V)) (k : Key) (v : V) → keys_of (ps ++ (k, v) ∷ []) ≡ keys_of ps ++ k ∷ []
  keys-push [] k v = refl
  keys-push (p ∷ ps) k v = ap (λ l. p.0 ∷ l) (keys-push ps k v)

  pub sound-array : (es : List (Entry V)) (p c n : ℕ) (h l : List ℕ) → Sound es p c n h l → IsArray (pairs_in es) n
  sound-array es p c n h l s = record { distinct = s.distinct; below = s.below; within = s.within }

  -- another value at a key's slot
  pub sound-put : (es : List (Entry V)) (p c n : ℕ) (h l : List ℕ) (key : Key) (i : ℕ) (v : V) → Sound es p c n h l → (f : Found key es i) → Sound (slice_set es i (entry f.at (Some v))) p c n h l
  sound-put es p c n h l key i v s f =
      let k : keys_of (pairs_in es) ≡ keys_of (pairs_in (slice_set es i (entry f.at (Some v)))) = sym (keys-put key v (pairs_in es) (some_none f.value (look key (pairs_in es)) f.look_is)) ∙ ap keys_of (f.puts v) in
      record {
        distinct = subst (λ ks. IsTrue (all_distinct ks)) k s.distinct;
        below = subst (λ ks. IsTrue (all_below n ks)) k s.below;
        within = s.within;
        counted = s.counted ∙ ap length k;
        passed = ap keys_of (front-set es p i f.at f.value (entry f.at (Some v)) (keys-none _ s.passed) f.entry_is);
        indexed = subst (IsIndex h l) (sym (slots-set es i (entry f.at (Some f.value)) (entry f.at (Some v)) f.entry_is refl)) s.indexed;
      }

  without_step : (b : Bool) (key k : Key) (v w : V) (ps : List (Key × V)) → (if b then Some v else look key ps) ≡ Some w → (look key ps ≡ Some w → suc (length (without key ps)) ≡ length ps)
      → suc (length (if b then ps else (k, v) ∷ without key ps)) ≡ suc (length ps)
  without_step true key k v w ps e ih = refl
  without_step false key k v w ps e ih = ap suc (ih e)

  without-count : (key : Key) (ps : List (Key × V)) (w : V) → look key ps ≡ Some w → suc (length (without key ps)) ≡ length ps
  without-count key [] w e = search rules
  without-count key (p ∷ ps) w e = without_step (same_key p.0 key) key p.0 p.1 w ps e (without-count key ps w)

  pub found-count : (es : List (Entry V)) (p c n : ℕ) (h l : List ℕ) (key : Key) (i : ℕ) → Sound es p c n h l → Found key es i → 0 < c
  found-count es p c n h l key i s f =
      let w = without-count key (pairs_in es) f.value f.look_is in
      let k = keys-count (pairs_in es) in
      let q = s.counted in
      omega arith

  -- no value at a key's slot
  pub sound-cut : (es : List (Entry V)) (p c n : ℕ) (h l : List ℕ) (key : Key) (i : ℕ) → Sound es p c n h l → (f : Found key es i) → Sound (slice_set es i (entry f.at None)) p (c - 1) n h l
  sound-cut es p c n h l key i s f =
      let k : keys_of (without key (pairs_in es)) ≡ keys_of (pairs_in (slice_set es i (entry f.at None))) = ap keys_of f.cuts in
      let w = without-count key (pairs_in es) f.value f.look_is in
      let a = keys-count (pairs_in es) in
      let b = keys-count (without key (pairs_in es)) in
      let q = s.counted in
      let m : c - 1 ≡ length (keys_of (without key (pairs_in es))) = omega arith in
      record {
        distinct = subst (λ ks. IsTrue (all_distinct ks)) k (all_distinct-without key (pairs_in es) s.distinct);
        below = subst (λ ks. IsTrue (all_below n ks)) k (all_below-without key (pairs_in es) n s.below);
        within = s.within;
        counted = m ∙ ap length k;
        passed = ap keys_of (front-set es p i f.at f.value (entry f.at None) (keys-none _ s.passed) f.entry_is);
        indexed = subst (IsIndex h l) (sym (slots-set es i (entry f.at (Some f.value)) (entry f.at None) f.entry_is refl)) s.indexed;
      }

  -- more slots at the front hold nothing
  pub sound-passed : (es : List (Entry V)) (p q c n : ℕ) (h l : List ℕ) → Sound es p c n h l → pairs_in (take q es) ≡ [] → Sound es q c n h l
  sound-passed es p q c n h l s e = record { distinct = s.distinct; below = s.below; within = s.within; counted = s.counted; passed = ap keys_of e; indexed = s.indexed }

  pub passed-none : (es : List (Entry V)) (p c n : ℕ) (h l : List ℕ) → Sound es p c n h l → pairs_in (take p es) ≡ []
  passed-none es p c n h l s = keys-none _ s.passed

  -- a pair behind the others
  pub sound-push : (es : List (Entry V)) (p c n : ℕ) (h l : List ℕ) (h' l' : List ℕ) (k : Key) (v : V) → Sound es p c n h l → look k (pairs_in es) ≡ None → next_after k n ≤ spent
      → IsIndex h' l' (slots_of (es ++ entry k (Some v) ∷ [])) → Sound (es ++ entry k (Some v) ∷ []) (min p (length es)) (c + 1) (next_after k n) h' l'
  sound-push es p c n h l h' l' k v s miss room is =
      let e : keys_of (pairs_in es) ++ k ∷ [] ≡ keys_of (pairs_in (es ++ entry k (Some v) ∷ [])) = sym (ap keys_of (pairs-append es (entry k (Some v) ∷ [])) ∙ keys-push (pairs_in es) k v) in
      record {
        distinct = subst (λ ks. IsTrue (all_distinct ks)) e (all_distinct-push (keys_of (pairs_in es)) k s.distinct (look-none k (pairs_in es) miss));
        below = subst (λ ks. IsTrue (all_below (next_after k n) ks)) e (all_below-push (keys_of (pairs_in es)) k (next_after k n) (all_below-more (keys_of (pairs_in es)) n (next_after k n) (next_after-ge k n) s.below) (next_after-above k n));
        within = room;
        counted = let q = s.counted in let m : c + 1 ≡ length (keys_of (pairs_in es) ++ k ∷ []) = grind (arith, length-append {A = Key}) in m ∙ ap length e;
        passed = ap keys_of (front-push es (min p (length es)) (entry k (Some v)) (omega arith) (front-less es p (min p (length es)) (omega arith) (keys-none _ s.passed)));
        indexed = is;
      }

  tail_keys : (k : Key) (o : Option V) (ps : List (Key × V)) (n : ℕ) → IsTrue (all_distinct (keys_of (ps ++ with_pair k o []))) → IsTrue (all_below n (keys_of (ps ++ with_pair k o [])))
      → IsTrue (all_distinct (keys_of ps)) × IsTrue (all_below n (keys_of ps))
  tail_keys k None ps n d b = let e : ps ++ [] ≡ ps = append-nil ps in (subst (λ x. IsTrue (all_distinct (keys_of x))) e d, subst (λ x. IsTrue (all_below n (keys_of x))) e b)
  tail_keys k (Some v) ps n d b = (all_distinct-front (keys_of ps) k (subst (λ x. IsTrue (all_distinct x)) (keys-push ps k v) d), all_below-front (keys_of ps) k n (subst (λ x. IsTrue (all_below n x)) (keys-push ps k v) b))

  tail_count : (k : Key) (o : Option V) (ps : List (Key × V)) → length (ps ++ with_pair k o []) ≡ length ps + held o
  tail_count k None ps = ap length (append-nil ps) ∙ omega arith
  tail_count k (Some v) ps = grind (arith, length-append {A = Key × V})

  -- the last entry is taken off
  pub sound-pop : (es : List (Entry V)) (x : Entry V) (p c n : ℕ) (h l h' l' : List ℕ) → Sound (es ++ x ∷ []) p c n h l → IsIndex h' l' (slots_of es) → Sound es p (c - held x.value) n h' l'
  sound-pop es x p c n h l h' l' s is =
      let e : pairs_in (es ++ x ∷ []) ≡ pairs_in es ++ with_pair x.key x.value [] = pairs-append es (x ∷ []) in
      let t = tail_keys x.key x.value (pairs_in es) n (subst (λ ps. IsTrue (all_distinct (keys_of ps))) e s.distinct) (subst (λ ps. IsTrue (all_below n (keys_of ps))) e s.below) in
      let a = keys-count (pairs_in (es ++ x ∷ [])) in
      let b = keys-count (pairs_in es) in
      let d = tail_count x.key x.value (pairs_in es) in
      let f = ap length e in
      let q = s.counted in
      record {
        distinct = t.0;
        below = t.1;
        within = s.within;
        counted = omega arith;
        passed = ap keys_of (front-pop es p x (keys-none _ s.passed));
        indexed = is;
      }

  pub pop-count : (es : List (Entry V)) (x : Entry V) (p c n : ℕ) (h l : List ℕ) → Sound (es ++ x ∷ []) p c n h l → held x.value ≤ c
  pop-count es x p c n h l s =
      let e : pairs_in (es ++ x ∷ []) ≡ pairs_in es ++ with_pair x.key x.value [] = pairs-append es (x ∷ []) in
      let a = keys-count (pairs_in (es ++ x ∷ [])) in
      let d = tail_count x.key x.value (pairs_in es) in
      let f = ap length e in
      let q = s.counted in
      omega arith

  -- the entries that hold pairs alone
  pub sound-kept : (es fs : List (Entry V)) (p c n : ℕ) (h l h' l' : List ℕ) → fs ≡ filter (λ e. is_some e.value) es → Sound es p c n h l → IsIndex h' l' (slots_of fs) → Sound fs 0 c n h' l'
  sound-kept es fs p c n h l h' l' f s is =
      let e : pairs_in es ≡ pairs_in fs = sym (ap pairs_in f ∙ pairs-kept es) in
      record {
        distinct = subst (λ ps. IsTrue (all_distinct (keys_of ps))) e s.distinct;
        below = subst (λ ps. IsTrue (all_below n (keys_of ps))) e s.below;
        within = s.within;
        counted = s.counted ∙ ap (λ ps. length (keys_of ps)) e;
        passed = refl;
        indexed = is;
      }

  pub sound-by : (es fs : List (Entry V)) (p q c n m : ℕ) (h l : List ℕ) → fs ≡ es → q ≡ p → m ≡ n → Sound es p c n h l → Sound fs q c m h l
  sound-by es fs p q c n m h l e f g s = subst (λ m. Sound fs q c m h l) (sym g) (subst (λ q. Sound fs q c n h l) (sym f) (subst (λ fs. Sound fs p c n h l) (sym e) s))

  kept_step : (b : Bool) (x : Entry V) (fs es : List (Entry V)) → length fs ≤ length es → length (cond b (x ∷ fs) fs) ≤ suc (length es)
  kept_step true x fs es h = omega arith
  kept_step false x fs es h = omega arith

  pub kept-long : (es : List (Entry V)) → length (filter (λ e. is_some e.value) es) ≤ length es
  kept-long [] = omega arith
  kept-long (e ∷ es) = kept_step (is_some e.value) e (filter (λ e. is_some e.value) es) es (kept-long es)

  -- ---- copies

  module _ (copies : V → V → Type 0) where
    pub slots-copied : (es fs : List (Entry V)) → AllZip (IsEntryCopy copies) es fs → slots_of fs ≡ slots_of es
    slots-copied [] [] a = refl
    slots-copied [] (f ∷ fs) a = absurd a
    slots-copied (e ∷ es) [] a = absurd a
    slots-copied (e ∷ es) (f ∷ fs) a = λ i. a.0.key i ∷ slots-copied es fs a.1 i

    pair_copied : (j k : Key) (o q : Option V) (ps qs : List (Key × V)) → k ≡ j → IsValueCopy copies o q → AreCopies copies ps qs → AreCopies copies (with_pair j o ps) (with_pair k q qs)
    pair_copied j k None None ps qs e v a = a
    pair_copied j k None (Some y) ps qs e v a = absurd v
    pair_copied j k (Some x) None ps qs e v a = absurd v
    pair_copied j k (Some x) (Some y) ps qs e v a = (e, v, a)

    pub pairs-copied : (es fs : List (Entry V)) → AllZip (IsEntryCopy copies) es fs → AreCopies copies (pairs_in es) (pairs_in fs)
    pairs-copied [] [] a = tt
    pairs-copied [] (f ∷ fs) a = absurd a
    pairs-copied (e ∷ es) [] a = absurd a
    pairs-copied (e ∷ es) (f ∷ fs) a = pair_copied e.key f.key e.value f.value (pairs_in es) (pairs_in fs) a.0.key a.0.value (pairs-copied es fs a.1)

    keys-copied : (ps qs : List (Key × V)) → AreCopies copies ps qs → keys_of qs ≡ keys_of ps
    keys-copied [] [] a = refl
    keys-copied [] (q ∷ qs) a = absurd a
    keys-copied (p ∷ ps) [] a = absurd a
    keys-copied (p ∷ ps) (q ∷ qs) a = λ i. a.0 i ∷ keys-copied ps qs a.2 i

    take-copied : (n : ℕ) (es fs : List (Entry V)) → AllZip (IsEntryCopy copies) es fs → AllZip (IsEntryCopy copies) (take n es) (take n fs)
    take-copied zero es fs a = tt
    take-copied (suc n) [] [] a = tt
    take-copied (suc n) [] (f ∷ fs) a = absurd a
    take-copied (suc n) (e ∷ es) [] a = absurd a
    take-copied (suc n) (e ∷ es) (f ∷ fs) a = (a.0, take-copied n es fs a.1)

    pub sound-copied : (es fs : List (Entry V)) (p c n : ℕ) (h l h' l' : List ℕ) → h' ≡ h → l' ≡ l → AllZip (IsEntryCopy copies) es fs → Sound es p c n h l → Sound fs p c n h' l'
    sound-copied es fs p c n h l h' l' u v a s =
        let k : keys_of (pairs_in es) ≡ keys_of (pairs_in fs) = sym (keys-copied (pairs_in es) (pairs_in fs) (pairs-copied es fs a)) in
        record {
          distinct = subst (λ ks. IsTrue (all_distinct ks)) k s.distinct;
          below = subst (λ ks. IsTrue (all_below n ks)) k s.below;
          within = s.within;
          counted = s.counted ∙ ap length k;
          passed = keys-copied (pairs_in (take p es)) (pairs_in (take p fs)) (pairs-copied (take p es) (take p fs) (take-copied p es fs a)) ∙ s.passed;
          indexed = subst (λ x. IsIndex x l' (slots_of fs)) (sym u) (subst (λ x. IsIndex h x (slots_of fs)) (sym v) (subst (IsIndex h l) (sym (slots-copied es fs a)) s.indexed));
        }
