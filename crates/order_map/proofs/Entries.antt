-- Entries slot by slot, and the pairs that they hold.
use Rattle.std.proofs.Common.{rules, arith, ◌≡◌, ℕ, zero, suc, ◌+◌, ◌<◌, ◌≤◌, Bool, true, false, not, cond, ◌&&◌, ◌||◌, List, [], ◌∷◌, ◌++◌, refl, sym, ap, ◌∙◌, Option, Some, None, is_some, length, slice_get, slice_set, take, drop, filter, if◌then◌else◌, IsTrue, true≢false}
use Rattle.order_map.specs.declared.key.Key.{Key}
use Rattle.order_map.specs.declared.entry.Entry.{Entry}
use Rattle.order_map.specs.Keys.{same_key, has_key, all_distinct}
use Rattle.order_map.specs.MapView.{entry}
use Rattle.order_map.specs.Arrays.{with_pair, pairs_in, with_slot, full_slots, keys_of, look, put, without}
use Rattle.order_map.specs.Chains.{holds}
use Rattle.order_map.proofs.Keys.{same_key-Decides, not_from_decides, not_false, and_left, and_right}

module _ {V : Type 0} where
  append_step : (k : Key) (o : Option V) (ps qs rs : List (Key × V)) → rs ≡ ps ++ qs → with_pair k o rs ≡ with_pair k o ps ++ qs
  append_step k None ps qs rs e = e
  append_step k (Some v) ps qs rs e = ap (λ l. (k, v) ∷ l) e

  pub pairs-append : (es fs : List (Entry V)) → pairs_in (es ++ fs) ≡ pairs_in es ++ pairs_in fs
  pairs-append [] fs = refl
  pairs-append (e ∷ es) fs = append_step e.key e.value (pairs_in es) (pairs_in fs) (pairs_in (es ++ fs)) (pairs-append es fs)

  keep_step : (k : Key) (o : Option V) (es : List (Entry V)) (ps : List (Key × V)) → pairs_in es ≡ ps → pairs_in (cond (is_some o) (entry k o ∷ es) es) ≡ with_pair k o ps
  keep_step k None es ps e = e
  keep_step k (Some v) es ps e = ap (λ l. (k, v) ∷ l) e

  -- the entries with a value hold all pairs
  pub pairs-kept : (es : List (Entry V)) → pairs_in (filter (λ e. is_some e.value) es) ≡ pairs_in es
  pairs-kept [] = refl
  pairs-kept (e ∷ es) = keep_step e.key e.value (filter (λ e. is_some e.value) es) (pairs_in es) (pairs-kept es)

  long_step : (k : Key) (o : Option V) (ps : List (Key × V)) (n m : ℕ) → length ps ≤ n → suc n ≡ m → length (with_pair k o ps) ≤ m
  long_step k None ps n m h e = omega arith
  long_step k (Some v) ps n m h e = omega arith

  pub pairs-long : (es : List (Entry V)) → length (pairs_in es) ≤ length es
  pairs-long [] = omega arith
  pairs-long (e ∷ es) = long_step e.key e.value (pairs_in es) (length es) (length (e ∷ es)) (pairs-long es) refl

  -- ---- a key's slot

  some_head : (b : Bool) (v w : V) (o : Option V) (r : Bool) → (if b then Some v else o) ≡ Some w → (o ≡ Some w → r ≡ true) → (b || r) ≡ true
  some_head true v w o r e ih = refl
  some_head false v w o r e ih = ih e

  look-some : (key : Key) (ps : List (Key × V)) (w : V) → look key ps ≡ Some w → has_key key (keys_of ps) ≡ true
  look-some key [] w e = search rules
  look-some key (p ∷ ps) w e = some_head (same_key p.0 key) p.1 w (look key ps) (has_key key (keys_of ps)) e (look-some key ps w)

  other_key : (key k : Key) (ps : List (Key × V)) (w : V) → IsTrue (not (has_key k (keys_of ps))) → look key ps ≡ Some w → same_key k key ≡ false
  other_key key k ps w n l = not_from_decides (same_key k key) (same_key-Decides k key) (λ q. true≢false (sym (look-some key ps w l) ∙ ap (λ x. has_key x (keys_of ps)) (sym q) ∙ not_false _ n))

  -- what holds where a slot holds a key's pair
  pub record Found (key : Key) (es : List (Entry V)) (i : ℕ) : Type 0 where
    pub at : Key
    pub value : V
    pub inside : i < length es
    pub entry_is : slice_get es i ≡ Some (entry at (Some value))
    pub look_is : look key (pairs_in es) ≡ Some value
    pub puts : (v : V) → put key v (pairs_in es) ≡ pairs_in (slice_set es i (entry at (Some v)))
    pub cuts : without key (pairs_in es) ≡ pairs_in (slice_set es i (entry at None))

  found_here : (key k : Key) (o : Option V) (es : List (Entry V)) → (is_some o && same_key k key) ≡ true → Found key (entry k o ∷ es) 0
  found_here key k None es h = search rules
  found_here key k (Some v) es h = record {
    at = k;
    value = v;
    inside = omega arith;
    entry_is = refl;
    look_is = ap (λ b. if b then Some v else look key (pairs_in es)) h;
    puts = λ w. ap (λ b. if b then (k, w) ∷ pairs_in es else (k, v) ∷ put key w (pairs_in es)) h;
    cuts = ap (λ b. if b then pairs_in es else (k, v) ∷ without key (pairs_in es)) h;
  }

  found_past : (key k : Key) (o : Option V) (es : List (Entry V)) (i : ℕ) → IsTrue (all_distinct (keys_of (with_pair k o (pairs_in es)))) → (IsTrue (all_distinct (keys_of (pairs_in es))) → Found key es i)
      → Found key (entry k o ∷ es) (suc i)
  found_past key k None es i d ih = let f = ih d in record {
    at = f.at;
    value = f.value;
    inside = let l = f.inside in omega arith;
    entry_is = f.entry_is;
    look_is = f.look_is;
    puts = f.puts;
    cuts = f.cuts;
  }
  found_past key k (Some v) es i d ih =
      let f = ih (and_right (not (has_key k (keys_of (pairs_in es)))) _ d) in
      let n = other_key key k (pairs_in es) f.value (and_left (not (has_key k (keys_of (pairs_in es)))) _ d) f.look_is in
      record {
        at = f.at;
        value = f.value;
        inside = let l = f.inside in omega arith;
        entry_is = f.entry_is;
        look_is = ap (λ b. if b then Some v else look key (pairs_in es)) n ∙ f.look_is;
        puts = λ w. ap (λ b. if b then (k, w) ∷ pairs_in es else (k, v) ∷ put key w (pairs_in es)) n ∙ ap (λ l. (k, v) ∷ l) (f.puts w);
        cuts = ap (λ b. if b then pairs_in es else (k, v) ∷ without key (pairs_in es)) n ∙ ap (λ l. (k, v) ∷ l) f.cuts;
      }

  pub found : (key : Key) (es : List (Entry V)) (i : ℕ) → IsTrue (all_distinct (keys_of (pairs_in es))) → holds key (slice_get es i) ≡ true → Found key es i
  found key [] i d h = search rules
  found key (e ∷ es) zero d h = found_here key e.key e.value es h
  found key (e ∷ es) (suc i) d h = found_past key e.key e.value es i d (λ t. found key es i t h)

  -- what holds where no slot holds a key's pair
  pub record Missing (key : Key) (es : List (Entry V)) : Type 0 where
    pub look_is : look key (pairs_in es) ≡ None
    pub puts : (v : V) → put key v (pairs_in es) ≡ pairs_in es ++ (key, v) ∷ []
    pub cuts : without key (pairs_in es) ≡ pairs_in es

  missing_step : (key k : Key) (o : Option V) (es : List (Entry V)) → (is_some o && same_key k key) ≡ false → Missing key es → Missing key (entry k o ∷ es)
  missing_step key k None es h m = record { look_is = m.look_is; puts = m.puts; cuts = m.cuts }
  missing_step key k (Some v) es h m = record {
    look_is = ap (λ b. if b then Some v else look key (pairs_in es)) h ∙ m.look_is;
    puts = λ w. ap (λ b. if b then (k, w) ∷ pairs_in es else (k, v) ∷ put key w (pairs_in es)) h ∙ ap (λ l. (k, v) ∷ l) (m.puts w);
    cuts = ap (λ b. if b then pairs_in es else (k, v) ∷ without key (pairs_in es)) h ∙ ap (λ l. (k, v) ∷ l) m.cuts;
  }

  pub missing : (key : Key) (es : List (Entry V)) → ((i : ℕ) → holds key (slice_get es i) ≡ false) → Missing key es
  missing key [] h = record { look_is = refl; puts = λ v. refl; cuts = refl }
  missing key (e ∷ es) h = missing_step key e.key e.value es (h 0) (missing key es (λ i. h (suc i)))

  -- ---- slots at the front that hold nothing

  pub keys-none : (ps : List (Key × V)) → keys_of ps ≡ [] → ps ≡ []
  keys-none [] e = refl
  keys-none (p ∷ ps) e = search rules

  none_left : (k : Key) (o : Option V) (ps : List (Key × V)) → with_pair k o ps ≡ [] → ps ≡ []
  none_left k None ps e = e
  none_left k (Some v) ps e = search rules

  front_step : (k : Key) (o : Option V) (ps qs : List (Key × V)) → with_pair k o ps ≡ [] → (ps ≡ [] → qs ≡ []) → with_pair k o qs ≡ []
  front_step k None ps qs f ih = ih f
  front_step k (Some v) ps qs f ih = search rules

  full_front : (k : Key) (v : V) (o : Option V) (j : Key) (ps : List (Key × V)) → o ≡ Some v → with_pair j o ps ≡ [] → ⊥
  full_front k v None j ps e f = search rules
  full_front k v (Some w) j ps e f = search rules

  pub front-set : (es : List (Entry V)) (p i : ℕ) (k : Key) (v : V) (e : Entry V) → pairs_in (take p es) ≡ [] → slice_get es i ≡ Some (entry k (Some v)) → pairs_in (take p (slice_set es i e)) ≡ []
  front-set [] p i k v e f g = search rules
  front-set (x ∷ es) zero i k v e f g = refl
  front-set (x ∷ es) (suc p) zero k v e f g = let q : x ≡ entry k (Some v) = cc in absurd (full_front k v x.value x.key (pairs_in (take p es)) (ap (λ y. y.value) q) f)
  front-set (x ∷ es) (suc p) (suc i) k v e f g = front_step x.key x.value (pairs_in (take p es)) (pairs_in (take p (slice_set es i e))) f (λ h. front-set es p i k v e h g)

  pub front-less : (es : List (Entry V)) (p q : ℕ) → q ≤ p → pairs_in (take p es) ≡ [] → pairs_in (take q es) ≡ []
  front-less es p zero l f = refl
  front-less es zero (suc q) l f = absurd (omega arith)
  front-less [] (suc p) (suc q) l f = refl
  front-less (x ∷ es) (suc p) (suc q) l f = front_step x.key x.value (pairs_in (take p es)) (pairs_in (take q es)) f (front-less es p q (omega arith))

  pub front-push : (es : List (Entry V)) (p : ℕ) (e : Entry V) → p ≤ length es → pairs_in (take p es) ≡ [] → pairs_in (take p (es ++ e ∷ [])) ≡ []
  front-push es zero e l f = refl
  front-push [] (suc p) e l f = absurd (omega arith)
  front-push (x ∷ es) (suc p) e l f = front_step x.key x.value (pairs_in (take p es)) (pairs_in (take p (es ++ e ∷ []))) f (front-push es p e (omega arith))

  pub front-pop : (es : List (Entry V)) (p : ℕ) (e : Entry V) → pairs_in (take p (es ++ e ∷ [])) ≡ [] → pairs_in (take p es) ≡ []
  front-pop es zero e f = refl
  front-pop [] (suc p) e f = refl
  front-pop (x ∷ es) (suc p) e f = front_step x.key x.value (pairs_in (take p (es ++ e ∷ []))) (pairs_in (take p es)) f (front-pop es p e)

  empty_pair : (k : Key) (o : Option V) (ps : List (Key × V)) → is_some o ≡ false → ps ≡ [] → with_pair k o ps ≡ []
  empty_pair k None ps h e = e
  empty_pair k (Some v) ps h e = search rules

  pub front-more : (es : List (Entry V)) (p : ℕ) (e : Entry V) → slice_get es p ≡ Some e → is_some e.value ≡ false → pairs_in (take p es) ≡ [] → pairs_in (take (suc p) es) ≡ []
  front-more [] p e g h f = refl
  front-more (x ∷ es) zero e g h f = let q : x ≡ e = cc in empty_pair x.key x.value [] (ap (λ y. is_some y.value) q ∙ h) refl
  front-more (x ∷ es) (suc p) e g h f = front_step x.key x.value (pairs_in (take p es)) (pairs_in (take (suc p) es)) f (front-more es p e g h)

  -- ---- places

  count_step : (j : ℕ) (k : Key) (o : Option V) (slots : List ℕ) (ps : List (Key × V)) → length slots ≡ length ps → length (with_slot j o slots) ≡ length (with_pair k o ps)
  count_step j k None slots ps e = e
  count_step j k (Some v) slots ps e = ap suc e

  pub full-long : (j : ℕ) (es : List (Entry V)) → length (full_slots j es) ≡ length (pairs_in es)
  full-long j [] = refl
  full-long j (e ∷ es) = count_step j e.key e.value (full_slots (j + 1) es) (pairs_in es) (full-long (j + 1) es)

  -- what holds where the i-th pair stands in a slot
  pub record Placed (j : ℕ) (es : List (Entry V)) (i p : ℕ) : Type 0 where
    pub past : ℕ
    pub key : Key
    pub value : V
    pub is : p ≡ j + past
    pub entry_is : slice_get es past ≡ Some (entry key (Some value))
    pub pair_is : slice_get (pairs_in es) i ≡ Some (key, value)
    pub after : slice_get (full_slots j es) (suc i) ≡ slice_get (full_slots (suc p) (drop (suc past) es)) 0

  placed_step : (j : ℕ) (k : Key) (o : Option V) (es : List (Entry V)) (i p : ℕ) → slice_get (with_slot j o (full_slots (j + 1) es)) i ≡ Some p
      → ((i p : ℕ) → slice_get (full_slots (j + 1) es) i ≡ Some p → Placed (j + 1) es i p) → Placed j (entry k o ∷ es) i p
  placed_step j k None es i p h ih = let f = ih i p h in record {
    past = suc f.past;
    key = f.key;
    value = f.value;
    is = let e = f.is in omega arith;
    entry_is = f.entry_is;
    pair_is = f.pair_is;
    after = f.after;
  }
  placed_step j k (Some v) es zero p h ih = let q : j ≡ p = cc in record {
    past = 0;
    key = k;
    value = v;
    is = omega arith;
    entry_is = refl;
    pair_is = refl;
    after = let s : j + 1 ≡ suc p = omega arith in ap (λ n. slice_get (full_slots n es) 0) s;
  }
  placed_step j k (Some v) es (suc i) p h ih = let f = ih i p h in record {
    past = suc f.past;
    key = f.key;
    value = f.value;
    is = let e = f.is in omega arith;
    entry_is = f.entry_is;
    pair_is = f.pair_is;
    after = f.after;
  }

  pub placed : (j : ℕ) (es : List (Entry V)) (i p : ℕ) → slice_get (full_slots j es) i ≡ Some p → Placed j es i p
  placed j [] i p h = search rules
  placed j (e ∷ es) i p h = placed_step j e.key e.value es i p h (placed (j + 1) es)

  pass_step : (j : ℕ) (k : Key) (o : Option V) (ps : List (Key × V)) (slots : List ℕ) → with_pair k o ps ≡ [] → with_slot j o slots ≡ slots
  pass_step j k None ps slots f = refl
  pass_step j k (Some v) ps slots f = search rules

  -- a walk may begin behind slots that hold nothing
  pub passed_over : (j p : ℕ) (es : List (Entry V)) → pairs_in (take p es) ≡ [] → full_slots j es ≡ full_slots (j + p) (drop p es)
  passed_over j zero es f = let e : j ≡ j + 0 = omega arith in ap (λ n. full_slots n es) e
  passed_over j (suc p) [] f = refl
  passed_over j (suc p) (x ∷ es) f =
      let e : j + 1 + p ≡ j + suc p = omega arith in
      pass_step j x.key x.value (pairs_in (take p es)) (full_slots (j + 1) es) f ∙ passed_over (j + 1) p es (none_left x.key x.value (pairs_in (take p es)) f) ∙ ap (λ n. full_slots n (drop p es)) e

  cut_from : (p : ℕ) (es : List (Entry V)) (e : Entry V) → slice_get es p ≡ Some e → drop p es ≡ e ∷ drop (suc p) es
  cut_from p [] e g = search rules
  cut_from zero (x ∷ es) e g = let q : x ≡ e = cc in ap (λ y. y ∷ es) q
  cut_from (suc p) (x ∷ es) e g = cut_from p es e g

  slot_here : (p : ℕ) (o : Option V) (slots : List ℕ) → is_some o ≡ true → slice_get (with_slot p o slots) 0 ≡ Some p
  slot_here p None slots h = search rules
  slot_here p (Some v) slots h = refl

  slot_past : (p : ℕ) (o : Option V) (slots : List ℕ) → is_some o ≡ false → with_slot p o slots ≡ slots
  slot_past p None slots h = refl
  slot_past p (Some v) slots h = search rules

  pub full-here : (p : ℕ) (es : List (Entry V)) (e : Entry V) → slice_get es p ≡ Some e → is_some e.value ≡ true → slice_get (full_slots p (drop p es)) 0 ≡ Some p
  full-here p es e g h = ap (λ l. slice_get (full_slots p l) 0) (cut_from p es e g) ∙ slot_here p e.value (full_slots (p + 1) (drop (suc p) es)) h

  pub full-next : (p : ℕ) (es : List (Entry V)) (e : Entry V) → slice_get es p ≡ Some e → is_some e.value ≡ false → slice_get (full_slots p (drop p es)) 0 ≡ slice_get (full_slots (p + 1) (drop (p + 1) es)) 0
  full-next p es e g h =
      let q : suc p ≡ p + 1 = omega arith in
      ap (λ l. slice_get (full_slots p l) 0) (cut_from p es e g) ∙ ap (λ l. slice_get l 0) (slot_past p e.value (full_slots (p + 1) (drop (suc p) es)) h) ∙ ap (λ n. slice_get (full_slots (p + 1) (drop n es)) 0) q
