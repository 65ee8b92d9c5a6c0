-- A split and a join keep the rule of the table.
use Rattle.std.proofs.Common.{None, Some, ◌∷◌, [], ◌≡◌, ◌≢◌, ℕ, true, false, List, ◌++◌, set, sym, refl, ap, ◌∙◌, subst, ⊎_elim, arith, Option}
use mathlib.Core.Option.{some}
use lib.ListN.{get_elem?}
use Rattle.atomic_table.specs.Table.{State, Splits, Joins}
use Rattle.atomic_table.proofs.Lists.{at_set, set_else, set_again, at_snoc, at_longer}
use Rattle.turn_store.specs.declared.view.Hold.{Hold}
use Rattle.turn_store.specs.declared.view.View.{View}
use Rattle.turn_store.specs.Items.{InItems, InHeld, count_items, roles_of}
use Rattle.turn_store.specs.Rule.{is_out, total, taken, Knows, IsLockState, newcomer, carried_of, has_hold, is_handy}
use Rattle.turn_store.specs.Plays.{joined, ruling}
use Rattle.turn_store.proofs.Counting.{in_append, count_append, total_set, total_snoc, holder_stays}

module _ {V : Type 0} (first : ℕ) (values : List V) where
  abbrev D : Type 0
  D = View V

  abbrev St : Type 0
  St = State (Option V) D

  abbrev Rule : St → Type 0
  Rule = IsLockState first values

  nothing : (s : St) (r : Rule s) (admin j : ℕ) → Knows admin r.roles r.past r.phase j newcomer
  nothing s r admin j = record { entries = λ e (h : ⊥). absurd h; turns = λ t (h : ⊥). absurd h; administers = λ is. false_true is }
    where
      false_true : {A : Type 0} → false ≡ true → A
      false_true e = cc

  pub splits : (id : ℕ) (d : D) → Splits Rule id d d newcomer
  splits id d s r at = let same = set_again s.views id d at in record {
    wide = r.wide;
    admin = r.admin;
    roles = r.roles;
    past = r.past;
    phase = r.phase;
    each_slot = r.each_slot;
    each_seat = λ j e is. ⊎_elim (λ h. r.each_seat j e (subst (λ (l : List D). get_elem? l j ≡ some e) same h)) (λ (t : newcomer ≡ e). subst (Knows r.admin r.roles r.past r.phase j) t (nothing s r r.admin j))
        (at_snoc (set s.views id d) newcomer e j is);
    holders = λ i j out t is. let h = r.holders i j out t is in record { view = h.view; is_there = at_longer (set s.views id d) (newcomer ∷ []) j h.view (ap (λ (l : List D). get_elem? l j) same ∙ h.is_there); has = h.has; slot = h.slot };
    idle = r.idle;
    beyond = r.beyond;
    ledger = λ k n. let a = total_snoc k n (set s.views id d) (newcomer {V = V}) in let b = r.ledger k n in let c : total k n (set s.views id d) ≡ total k n s.views = ap (total k n) same in omega arith;
  }

  -- the seat id takes the items of another seat, which holds no turn
  merges : (s : St) (r : Rule s) (admin id other : ℕ) (v w both : D) → get_elem? s.views id ≡ some v → other ≢ id → get_elem? (set s.views id both) other ≡ some w
      → both.items ≡ v.items ++ w.items → both.held ≡ v.held → both.hand ≡ v.hand → w.held ≡ []
      → (both.admin ≡ true → (id ≡ admin) × ((k : ℕ) → roles_of k both.changes ≡ r.roles k))
      → ((j : ℕ) → j ≢ id → j ≢ other → j ≡ r.admin → j ≡ admin)
      → Rule record { words = s.words; homes = s.homes; views = set (set s.views id both) other newcomer }
  merges s r admin id other v w both at apart there items held hand none_held ruled others = let there' : get_elem? s.views other ≡ some w = sym (set_else s.views id other both apart) ∙ there in record {
    wide = r.wide;
    admin = admin;
    roles = r.roles;
    past = r.past;
    phase = r.phase;
    each_slot = r.each_slot;
    each_seat = λ j e is. ⊎_elim (λ (t : (j ≡ other) × (newcomer ≡ e)). subst (Knows admin r.roles r.past r.phase j) t.1 (nothing s r admin j))
        (λ (t : (j ≢ other) × (get_elem? (set s.views id both) j ≡ some e)). ⊎_elim
        (λ (u : (j ≡ id) × (both ≡ e)). subst (λ (z : ℕ × D). Knows admin r.roles r.past r.phase z.0 z.1) (λ i. (sym u.0 i, u.1 i)) record {
          entries = λ x m. ⊎_elim (λ a. (r.each_seat id v at).entries x a) (λ b. (r.each_seat other w there').entries x b) (in_append x v.items w.items (subst (InItems x) items m));
          turns = λ x m. (r.each_seat id v at).turns x (subst (InHeld x) held m) ∙ ap (λ (h : Option ℕ). taken id (is_out h x.slot) x) (sym hand);
          administers = ruled;
        })
        (λ (u : (j ≢ id) × (get_elem? s.views j ≡ some e)). let was = r.each_seat j e u.1 in record {
          entries = was.entries;
          turns = was.turns;
          administers = λ a. let h = was.administers a in (others j u.0 t.0 h.0, h.1);
        }) (at_set s.views id j both e t.1))
        (at_set (set s.views id both) other j newcomer e is);
    holders = λ i j out t is. holder_stays (set s.views id both) other w newcomer i j t there (λ m. subst (InHeld t) none_held m)
        (holder_stays s.views id v both i j t at (λ m. subst (InHeld t) (sym held) m) (r.holders i j out t is));
    idle = r.idle;
    beyond = r.beyond;
    ledger = λ k n. let a = total_set k n s.views id v both at in let b = total_set k n (set s.views id both) other w newcomer there in let c = r.ledger k n in
        let i = ap (count_items k n) items ∙ count_append k n v.items w.items in omega arith;
  }

  pub joins : (id : ℕ) (v : D) (other : ℕ) (w : D) → w.held ≡ [] → Joins Rule id v other w (joined v w) newcomer
  joins id v other w none s r at apart there = merges s r r.admin id other v w (joined v w) at apart there refl refl refl none ((r.each_seat id v at).administers) (λ j _ _ e. e)

  -- the administrator's seat is taken in
  pub rules : (id : ℕ) (v : D) (other : ℕ) (w : D) → w.admin ≡ true → w.held ≡ [] → Joins Rule id v other w (ruling v w) newcomer
  rules id v other w is none s r at apart there = let there' : get_elem? s.views other ≡ some w = sym (set_else s.views id other (ruling v w) apart) ∙ there in let mine = (r.each_seat other w there').administers is in
      merges s r id id other v w (ruling v w) at apart there refl refl refl none (λ _. (refl, mine.1)) (λ j _ ne e. absurd (ne (e ∙ sym mine.0)))

  -- a pass that holds no turn carries nothing
  pub no_hand : (h : Option ℕ) (held : List (Hold V)) → is_handy h held ≡ true → held ≡ [] → carried_of {V = V} h ≡ []
  no_hand None held handy none = refl
  no_hand (Some k) held handy none = absurd (false_is_true (sym (ap (has_hold k) none) ∙ handy))
    where
      false_is_true : false ≡ true → ⊥
      false_is_true e = cc
