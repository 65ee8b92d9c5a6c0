-- What the rule says of a store at its end.
use Rattle.std.proofs.Common.{◌≡◌, ◌≢◌, ◌⊎◌, ℕ, zero, suc, ◌+◌, ◌<◌, ◌≤◌, eqb, cond, Bool, true, false, ◌&&◌, List, [], ◌∷◌, length, get_or, sym, refl, ap, ◌∙◌, subst, ⊎_elim, arith, Option, Some, ne_eqb}
use mathlib.Core.Logic.{dite}
use mathlib.Core.Option.{none, some, some-injective, some-ne-none}
use mathlib.Core.Option as maybe
use native.Mathlib.Decide.{ℕ_discrete, dec_le}
use lib.ListN.{get_elem?}
use Rattle.atomic_table.specs.Table.{State, Final, Seen}
use Rattle.turn_store.specs.declared.view.Entry.{Entry}
use Rattle.turn_store.specs.declared.view.View.{View}
use Rattle.turn_store.specs.Words.{taken_of, generation_of, change_of, pin_of}
use Rattle.turn_store.specs.Items.{In, InItems, hit, count_items, count_past, role_at, roles_of}
use Rattle.turn_store.specs.Rule.{total, left_by, last_change, Phase, free, over, taken, AtHome, PhaseOk, Legal, SlotOk, IsLockState}
use Rattle.turn_store.specs.Histories.{LegalHistory}

module _ {V : Type 0} (k first : ℕ) (began : maybe.Option V) (roles : List ℕ) where
  abbrev Past : List (Entry V) → Type 0
  Past = Legal k first began roles

  pub record IsOf (e : Entry V) (past : List (Entry V)) : Type 0 where
    pub slot : e.slot ≡ k
    pub low : first ≤ e.number
    pub high : e.number < first + length past
    pub change : e.change ≤ length roles
    pub pin : e.pin ≡ role_at roles e.change

  pub past_of : (past : List (Entry V)) (e : Entry V) → Past past → In e past → IsOf e past
  past_of [] e ok h = absurd h
  past_of (x ∷ xs) e ok h = ⊎_elim
      (λ (t : e ≡ x). let y : IsOf x (x ∷ xs) = record { slot = ok.0; low = (let n = ok.1 in omega arith); high = (let n = ok.1 in omega arith); change = ok.4; pin = ok.5 } in subst (λ (z : Entry V). IsOf z (x ∷ xs)) (sym t) y)
      (λ t. let y = past_of xs e ok.6 t in record { slot = y.slot; low = y.low; high = (let a = y.high in omega arith); change = y.change; pin = y.pin }) h

  pub past_begins : (past : List (Entry V)) (e : Entry V) → Past past → In e past → e.number ≡ first → began ≡ some e.before
  past_begins [] e ok h is = absurd h
  past_begins (x ∷ []) e ok h is = ⊎_elim (λ (t : e ≡ x). sym (subst (λ (z : Entry V). some z.before ≡ began) (sym t) ok.2)) (λ (t : ⊥). absurd t) h
  past_begins (x ∷ y ∷ ys) e ok h is = ⊎_elim (λ (t : e ≡ x). let n = ok.1 in let m : e.number ≡ x.number = ap (λ (z : Entry V). z.number) t in absurd (omega arith)) (λ t. past_begins (y ∷ ys) e ok.6 t is) h

  pub past_last : (past : List (Entry V)) (e : Entry V) → Past past → In e past → e.number + 1 ≡ first + length past → left_by began past ≡ some e.after
  past_last [] e ok h is = absurd h
  past_last (x ∷ xs) e ok h is = ⊎_elim (λ (t : e ≡ x). ap (λ (z : Entry V). some z.after) (sym t)) (λ t. let y = (past_of xs e ok.6 t).high in absurd (omega arith)) h

  past_change : (past : List (Entry V)) (e : Entry V) → Past past → In e past → e.change ≤ last_change past
  past_change [] e ok h = absurd h
  past_change (x ∷ xs) e ok h = ⊎_elim (λ (t : e ≡ x). let m : e.change ≡ x.change = ap (λ (z : Entry V). z.change) t in omega arith) (λ t. let y = past_change xs e ok.6 t in let a = ok.3 in omega arith) h

  pub past_follows : (past : List (Entry V)) (e f : Entry V) → Past past → In e past → In f past → f.number ≡ e.number + 1 → f.before ≡ e.after
  past_follows [] e f ok h i next = absurd h
  past_follows (x ∷ xs) e f ok h i next = let n = ok.1 in ⊎_elim
      (λ (u : f ≡ x). let fn : f.number ≡ x.number = ap (λ (z : Entry V). z.number) u in ⊎_elim
      (λ (t : e ≡ x). let en : e.number ≡ x.number = ap (λ (z : Entry V). z.number) t in absurd (omega arith))
      (λ t. some-injective f.before e.after (ap (λ (z : Entry V). some z.before) u ∙ (ok.2 ∙ past_last xs e ok.6 t (omega arith)))) h)
      (λ u. let fh = (past_of xs f ok.6 u).high in ⊎_elim
      (λ (t : e ≡ x). let en : e.number ≡ x.number = ap (λ (z : Entry V). z.number) t in absurd (omega arith))
      (λ t. past_follows xs e f ok.6 t u next) h) i

  pub past_rises : (past : List (Entry V)) (e f : Entry V) → Past past → In e past → In f past → e.number ≤ f.number → e.change ≤ f.change
  past_rises [] e f ok h i up = absurd h
  past_rises (x ∷ xs) e f ok h i up = let n = ok.1 in ⊎_elim
      (λ (u : f ≡ x). let c : e.change ≤ x.change = past_change (x ∷ xs) e ok h in let m : f.change ≡ x.change = ap (λ (z : Entry V). z.change) u in omega arith)
      (λ u. let fh = (past_of xs f ok.6 u).high in ⊎_elim
      (λ (t : e ≡ x). let en : e.number ≡ x.number = ap (λ (z : Entry V). z.number) t in absurd (omega arith))
      (λ t. past_rises xs e f ok.6 t u up) h) i

  hit_most : (i n : ℕ) (e : Entry V) → hit i n e ≤ 1
  hit_most i n e = bound (eqb e.slot i && eqb e.number n)
    where
      bound : (b : Bool) → cond b 1 0 ≤ 1
      bound true = omega arith
      bound false = omega arith

  and_false : (b : Bool) → (b && false) ≡ false
  and_false true = refl
  and_false false = refl

  hit_other : (i n : ℕ) (e : Entry V) → e.number ≢ n → hit i n e ≡ 0
  hit_other i n e ne = ap (λ (b : Bool). cond b 1 0) (ap (λ (b : Bool). eqb e.slot i && b) (ne_eqb e.number n ne) ∙ and_false (eqb e.slot i))

  past_none : (i n : ℕ) (past : List (Entry V)) → Past past → first + length past ≤ n → count_past i n past ≡ 0
  past_none i n [] ok far = refl
  past_none i n (x ∷ xs) ok far = let m = ok.1 in let h = hit_other i n x (λ e. omega arith) in let g = past_none i n xs ok.6 (omega arith) in omega arith

  pub past_once : (i n : ℕ) (past : List (Entry V)) → Past past → count_past i n past ≤ 1
  past_once i n [] ok = omega arith
  past_once i n (x ∷ xs) ok = dite (ℕ_discrete x.number n)
      (λ e. let m = ok.1 in let h = hit_most i n x in let g = past_none i n xs ok.6 (omega arith) in omega arith)
      (λ ne. let h = hit_other i n x ne in let g = past_once i n xs ok.6 in omega arith)

module _ {V : Type 0} where
  counted : (k n : ℕ) (ds : List (View V)) (j : ℕ) (d : View V) → get_elem? ds j ≡ some d → count_items k n d.items ≤ total k n ds
  counted k n [] j d e = absurd (some-ne-none d (sym e))
  counted k n (x ∷ xs) zero d e = let same : count_items k n x.items ≡ count_items k n d.items = ap (λ (z : View V). count_items k n z.items) (some-injective x d e) in omega arith
  counted k n (x ∷ xs) (suc j) d e = let h = counted k n xs j d e in omega arith

  home_at_end : (w : ℕ) (h : maybe.Option (maybe.Option (Option V))) (k : ℕ) (roles : List ℕ) (past : List (Entry V)) (left : maybe.Option V) (p : Phase V) → (taken_of w ≡ 0) ⊎ (generation_of w ≡ 4294967295) → PhaseOk w h k roles past left p → AtHome h left
  home_at_end w h k roles past left free c ok = ok.1
  home_at_end w h k roles past left over c ok = ok.1
  home_at_end w h k roles past left (taken j b t) c ok = let a = ok.bit in let r = ok.room in absurd (⊎_elim (λ (z : taken_of w ≡ 0). omega arith) (λ (z : generation_of w ≡ 4294967295). omega arith) c)

  module _ (first : ℕ) (values : List V) (s : State (Option V) (View V)) (r : IsLockState first values s) (id : ℕ) (d : View V) (at : get_elem? s.views id ≡ some d) where
    past_at : (e : Entry V) → InItems e d.items → In e (r.past e.slot)
    past_at e m = (r.each_seat id d at).entries e m

    within : (e : Entry V) → InItems e d.items → e.slot < length s.homes
    within e m = dite (dec_le (length s.homes) e.slot) (λ far. absurd (let h : In e [] = subst (In e) (r.beyond e.slot far) (past_at e m) in h)) (λ near. omega arith)

    slot_at : (e : Entry V) → InItems e d.items → SlotOk first (get_elem? values e.slot) e.slot (get_or s.words e.slot 0) (get_elem? s.homes e.slot) (r.roles e.slot) (r.past e.slot) (r.phase e.slot)
    slot_at e m = r.each_slot e.slot (within e m)

    of_past : (e : Entry V) → InItems e d.items → IsOf e.slot first (get_elem? values e.slot) (r.roles e.slot) e (r.past e.slot)
    of_past e m = past_of e.slot first (get_elem? values e.slot) (r.roles e.slot) (r.past e.slot) e (slot_at e m).legal (past_at e m)

    -- an entry in the past of another's slot
    past_with : (e f : Entry V) → InItems f d.items → f.slot ≡ e.slot → In f (r.past e.slot)
    past_with e f m same = subst (λ (k : ℕ). In f (r.past k)) same (past_at f m)

    once : (k n : ℕ) → count_items k n d.items ≤ 1
    once k n = let a = counted k n s.views id d at in let b = r.ledger k n in
        let c : count_past k n (r.past k) ≤ 1 = dite (dec_le (length s.homes) k) (λ far. subst (λ (es : List (Entry V)). count_past k n es ≤ 1) (sym (r.beyond k far)) (omega arith))
        (λ near. let ok = r.each_slot k (omega arith) in past_once k first (get_elem? values k) (r.roles k) k n (r.past k) ok.legal) in omega arith

  pub ends : (first : ℕ) (values : List V) (id : ℕ) (d : View V) → d.admin ≡ true → (words : List ℕ) (xs : List (Option V)) → Final (Seen (IsLockState first values) id d) words xs → LegalHistory first values d.items d.changes words xs
  ends first values id d rules words xs f = let s = f.0 in let r = f.1.0 in let at = f.1.1 in let wide = r.wide in let deep = f.3 in
      let roles : (k : ℕ) → r.roles k ≡ roles_of k d.changes = λ k. sym (((r.each_seat id d at).administers rules).1 k) in
      subst (λ (ws : List ℕ). LegalHistory first values d.items d.changes ws xs) f.2 record {
        wide = wide ∙ deep;
        inside = λ e m. let h = within first values s r id d at e m in omega arith;
        numbered = λ e m. let h = of_past first values s r id d at e m in let v = (slot_at first values s r id d at e m).generation in let a = h.high in (h.low, omega arith);
        distinct = once first values s r id d at;
        grows = λ k l. let v = (r.each_slot k (omega arith)).generation in omega arith;
        begins = λ e m is. past_begins e.slot first (get_elem? values e.slot) (r.roles e.slot) (r.past e.slot) e (slot_at first values s r id d at e m).legal (past_at first values s r id d at e m) is;
        follows = λ e g m n same next. past_follows e.slot first (get_elem? values e.slot) (r.roles e.slot) (r.past e.slot) e g (slot_at first values s r id d at e m).legal (past_at first values s r id d at e m) (past_with first values s r id d at e g n same) next;
        rises = λ e g m n same up. past_rises e.slot first (get_elem? values e.slot) (r.roles e.slot) (r.past e.slot) e g (slot_at first values s r id d at e m).legal (past_at first values s r id d at e m) (past_with first values s r id d at e g n same) up;
        pins = λ e m. let h = of_past first values s r id d at e m in subst (λ (l : List ℕ). (e.change ≤ length l) × (e.pin ≡ role_at l e.change)) (roles e.slot) (h.change, h.pin);
        words_pinned = λ k l. let ok = r.each_slot k (omega arith) in subst (λ (rs : List ℕ). (change_of (get_or s.words k 0) ≡ length rs) × (pin_of (get_or s.words k 0) ≡ role_at rs (length rs))) (roles k) (ok.change, ok.pin);
        lasts = λ k l c. let ok = r.each_slot k (omega arith) in
            let home = home_at_end (get_or s.words k 0) (get_elem? s.homes k) k (r.roles k) (r.past k) (left_by (get_elem? values k) (r.past k)) (r.phase k) c ok.phase_ok in record {
              value = home.value;
              is_home = f.4 k (Some home.value) home.is_home;
              untouched = λ is. let v = ok.generation in sym (empty_left (get_elem? values k) (r.past k) (omega arith)) ∙ home.is_left;
              last = λ e m on next. let h = past_at first values s r id d at e m in let h' : In e (r.past k) = subst (λ (z : ℕ). In e (r.past z)) on h in let v = ok.generation in
                  some-injective home.value e.after (sym home.is_left ∙ past_last k first (get_elem? values k) (r.roles k) (r.past k) e ok.legal h' (next ∙ v));
            };
      }
    where
      empty_left : (began : maybe.Option V) (past : List (Entry V)) → length past ≡ 0 → left_by began past ≡ began
      empty_left began [] e = refl
      empty_left began (x ∷ xs) e = absurd (omega arith)
