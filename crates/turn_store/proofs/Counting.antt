-- Lists of items, of turns and of views.
use Rattle.std.proofs.Common.{false, true, ◌≡◌, ◌≢◌, ◌⊎◌, ℕ, zero, suc, ◌+◌, eqb, cond, Bool, ◌&&◌, List, [], ◌∷◌, ◌++◌, set, sym, refl, ap, ◌∙◌, subst, inl, inr, ⊎_elim, arith, eq-eqb, ne_eqb}
use mathlib.Core.Logic.{dite}
use mathlib.Core.Option.{some, some-injective, some-ne-none}
use native.Mathlib.Decide.{ℕ_discrete}
use lib.ListN.{get_elem?}
use Rattle.atomic_table.proofs.Lists.{set_else}
use Rattle.turn_store.specs.declared.view.Entry.{Entry}
use Rattle.turn_store.specs.declared.view.Item.{Item}
use Rattle.turn_store.specs.declared.view.Item.TheVariants.{Failed, Completed}
use Rattle.turn_store.specs.declared.view.Hold.{Hold}
use Rattle.turn_store.specs.declared.view.View.{View}
use Rattle.turn_store.specs.Items.{InItems, InHeld, without, hit, count_items}
use Rattle.turn_store.specs.Rule.{total, IsHolder, has_hold}

abbrev pick : {A P : Type 0} → Dec P → A → A → A
pick (yes _) a b = a
pick (no _) a b = b

module _ {A : Type 0} where
  pub put : (ℕ → A) → ℕ → A → ℕ → A
  put f i c j = pick (ℕ_discrete j i) c (f j)

  pub put_here : (f : ℕ → A) (i : ℕ) (c : A) → put f i c i ≡ c
  unfolding put
  put_here f i c = go (ℕ_discrete i i)
    where
      go : (d : Dec (i ≡ i)) → pick d c (f i) ≡ c
      go (yes _) = refl
      go (no n) = absurd (n refl)

  pub put_else : (f : ℕ → A) (i : ℕ) (c : A) (j : ℕ) → j ≢ i → put f i c j ≡ f j
  unfolding put
  put_else f i c j other = go (ℕ_discrete j i)
    where
      go : (d : Dec (j ≡ i)) → pick d c (f j) ≡ f j
      go (yes e) = absurd (other e)
      go (no _) = refl

module _ {V : Type 0} where
  pub in_append : (e : Entry V) (xs ys : List (Item V)) → InItems e (xs ++ ys) → InItems e xs ⊎ InItems e ys
  in_append e [] ys h = inr h
  in_append e (Failed i w ∷ xs) ys h = in_append e xs ys h
  in_append e (Completed x ∷ xs) ys h = ⊎_elim (λ (t : e ≡ x). inl (inl t)) (λ t. ⊎_elim (λ a. inl (inr a)) (λ b. inr b) (in_append e xs ys t)) h

  pub count_append : (k n : ℕ) (xs ys : List (Item V)) → count_items k n (xs ++ ys) ≡ count_items k n xs + count_items k n ys
  count_append k n [] ys = omega arith
  count_append k n (Failed i w ∷ xs) ys = count_append k n xs ys
  count_append k n (Completed e ∷ xs) ys = let h = count_append k n xs ys in let a : ℕ = hit k n e in let p : a + count_items k n (xs ++ ys) ≡ a + (count_items k n xs + count_items k n ys) = ap (λ z. a + z) h in omega arith

  pub total_set : (k n : ℕ) (ds : List (View V)) (j : ℕ) (d w : View V) → get_elem? ds j ≡ some d → total k n (set ds j w) + count_items k n d.items ≡ total k n ds + count_items k n w.items
  total_set k n [] j d w e = absurd (some-ne-none d (sym e))
  total_set k n (x ∷ xs) zero d w e = let same : count_items k n x.items ≡ count_items k n d.items = ap (λ (z : View V). count_items k n z.items) (some-injective x d e) in omega arith
  total_set k n (x ∷ xs) (suc j) d w e = let h = total_set k n xs j d w e in omega arith

  pub total_snoc : (k n : ℕ) (ds : List (View V)) (d : View V) → total k n (ds ++ d ∷ []) ≡ total k n ds + count_items k n d.items
  total_snoc k n [] d = omega arith
  total_snoc k n (x ∷ xs) d = let h = total_snoc k n xs d in omega arith

  pub in_without : (t : Hold V) (k : ℕ) (ts : List (Hold V)) → InHeld t (without k ts) → InHeld t ts × (t.slot ≢ k)
  in_without t k [] h = absurd h
  in_without t k (x ∷ xs) h = dite (ℕ_discrete x.slot k)
      (λ e. let g = subst (λ (b : Bool). InHeld t (cond b (without k xs) (x ∷ without k xs))) (eq-eqb x.slot k e) h in let r = in_without t k xs g in (inr r.0, r.1))
      (λ ne. let g = subst (λ (b : Bool). InHeld t (cond b (without k xs) (x ∷ without k xs))) (ne_eqb x.slot k ne) h in
      ⊎_elim (λ (a : t ≡ x). (inl a, λ z. ne (ap (λ (y : Hold V). y.slot) (sym a) ∙ z))) (λ a. let r = in_without t k xs a in (inr r.0, r.1)) g)

  pub hit_else : (k n : ℕ) (e : Entry V) → e.slot ≢ k → hit k n e ≡ 0
  hit_else k n e ne = ap (λ (b : Bool). cond (b && eqb e.number n) 1 0) (ne_eqb e.slot k ne)

  pub still_in : (t : Hold V) (k : ℕ) (ts : List (Hold V)) → t.slot ≢ k → InHeld t ts → InHeld t (without k ts)
  still_in t k [] ne h = absurd h
  still_in t k (x ∷ xs) ne h = dite (ℕ_discrete x.slot k)
      (λ e. subst (λ (b : Bool). InHeld t (cond b (without k xs) (x ∷ without k xs))) (sym (eq-eqb x.slot k e))
      (⊎_elim (λ (a : t ≡ x). absurd (ne (ap (λ (y : Hold V). y.slot) a ∙ e))) (λ a. still_in t k xs ne a) h))
      (λ other. subst (λ (b : Bool). InHeld t (cond b (without k xs) (x ∷ without k xs))) (sym (ne_eqb x.slot k other)) (⊎_elim (λ (a : t ≡ x). inl a) (λ a. inr (still_in t k xs ne a)) h))

  pub set_at : (ds : List (View V)) (j : ℕ) (d w : View V) → get_elem? ds j ≡ some d → get_elem? (set ds j w) j ≡ some w
  set_at [] j d w e = absurd (some-ne-none d (sym e))
  set_at (x ∷ xs) zero d w e = refl
  set_at (x ∷ xs) (suc j) d w e = set_at xs j d w e

  -- a seat's new view has the turn too
  pub holder_stays : (ds : List (View V)) (id : ℕ) (d w : View V) (k j : ℕ) (t : Hold V) → get_elem? ds id ≡ some d → (InHeld t d.held → InHeld t w.held) → IsHolder ds k j t → IsHolder (set ds id w) k j t
  holder_stays ds id d w k j t at still h = dite (ℕ_discrete j id)
      (λ e. record {
        view = w;
        is_there = subst (λ (z : ℕ). get_elem? (set ds id w) z ≡ some w) (sym e) (set_at ds id d w at);
        has = still (subst (λ (z : View V). InHeld t z.held) (some-injective h.view d (sym h.is_there ∙ (ap (get_elem? ds) e ∙ at))) h.has);
        slot = h.slot;
      })
      (λ ne. record { view = h.view; is_there = set_else ds id j w ne ∙ h.is_there; has = h.has; slot = h.slot })

  pub set_twice : (ds : List (View V)) (j : ℕ) (d w : View V) → set (set ds j d) j w ≡ set ds j w
  set_twice [] j d w = refl
  set_twice (x ∷ xs) zero d w = refl
  set_twice (x ∷ xs) (suc j) d w = ap (λ l. x ∷ l) (set_twice xs j d w)

  pub hold_there : (k : ℕ) (ts : List (Hold V)) → has_hold k ts ≡ true → (t : Hold V) × InHeld t ts × (t.slot ≡ k)
  hold_there k [] e = absurd (false_is_true e)
    where
      false_is_true : false ≡ true → ⊥
      false_is_true e = cc
  hold_there k (x ∷ xs) e = dite (ℕ_discrete x.slot k) (λ on. (x, inl refl, on))
      (λ ne. let g = subst (λ (b : Bool). cond b true (has_hold k xs) ≡ true) (ne_eqb x.slot k ne) e in let h = hold_there k xs g in (h.0, inr h.1, h.2))
