-- A pin keeps the rule of the table.
use Rattle.std.proofs.Common.{◌≡◌, ◌≢◌, ℕ, zero, suc, ◌+◌, ◌*◌, ◌/◌, ◌%◌, ◌^◌, ◌<◌, ◌≤◌, eqb, cond, Bool, true, List, [], ◌∷◌, ◌++◌, length, get_or, set, sym, refl, ap, ◌∙◌, subst, ⊎_elim, arith, Option, length-set, length-append, get_or-set_other, get_or-set_same, eq-eqb, ne_eqb}
use mathlib.Core.Logic.{dite}
use mathlib.Core.Option.{none, some}
use mathlib.Core.Option as maybe
use native.Mathlib.Decide.{ℕ_discrete}
use lib.ListN.{get_elem?}
use lib.Seq.{set-get_or}
use Rattle.atomic_table.specs.Table.{State, Me, step, keeps, Allows}
use Rattle.atomic_table.proofs.Lists.{at_set, set_again}
use Rattle.turn_store.specs.declared.view.Entry.{Entry}
use Rattle.turn_store.specs.declared.view.Change.{Change}
use Rattle.turn_store.specs.declared.view.View.{View}
use Rattle.turn_store.specs.Words.{taken_of, generation_of, pin_of}
use Rattle.turn_store.specs.Items.{role_at, roles_of}
use Rattle.turn_store.specs.Rule.{left_by, Phase, free, over, taken, PhaseOk, Legal, SlotOk, Knows, IsLockState}
use Rattle.turn_store.specs.Items.{change}
use Rattle.turn_store.specs.Plays.{with_change, known, pinned}
use Rattle.turn_store.proofs.Counting.{put, put_here, put_else, total_set, holder_stays}
use Rattle.turn_store.proofs.WordSteps.{pinned_fields}

abbrev Home : Type 0 → Type 0
Home V = maybe.Option (maybe.Option (Option V))

get_front : (xs : List ℕ) (x i : ℕ) → i < length xs → get_or (xs ++ x ∷ []) i 0 ≡ get_or xs i 0
get_front [] x i h = absurd (omega arith)
get_front (y ∷ ys) x zero h = refl
get_front (y ∷ ys) x (suc i) h = get_front ys x i (omega arith)

get_last : (xs : List ℕ) (x i : ℕ) → i ≡ length xs → get_or (xs ++ x ∷ []) i 0 ≡ x
get_last [] x zero h = refl
get_last [] x (suc i) h = absurd (omega arith)
get_last (y ∷ ys) x zero h = absurd (omega arith)
get_last (y ∷ ys) x (suc i) h = get_last ys x i (omega arith)

-- a role that is added leaves the earlier ones
pub role_stays : (roles : List ℕ) (p c : ℕ) → c ≤ length roles → role_at (roles ++ p ∷ []) c ≡ role_at roles c
role_stays roles p zero h = refl
role_stays roles p (suc c) h = get_front roles p c (omega arith)

role_added : (roles : List ℕ) (p : ℕ) → role_at (roles ++ p ∷ []) (length (roles ++ p ∷ [])) ≡ p
role_added roles p = ap (role_at (roles ++ p ∷ [])) (let n : length (roles ++ p ∷ []) ≡ suc (length roles) = length-append roles (p ∷ []) ∙ (omega arith) in n) ∙ get_last roles p (length roles) refl

pub roles_more : (k : ℕ) (cs : List Change) (p : ℕ) → roles_of k (cs ++ change k p ∷ []) ≡ roles_of k cs ++ p ∷ []
roles_more k [] p = ap (λ (b : Bool). cond b (p ∷ []) []) (eq-eqb k k refl)
roles_more k (c ∷ cs) p = let h = roles_more k cs p in dite (ℕ_discrete c.slot k)
    (λ e. let b = eq-eqb c.slot k e in ap (λ (z : Bool). cond z (c.role ∷ roles_of k (cs ++ change k p ∷ [])) (roles_of k (cs ++ change k p ∷ []))) b ∙ (ap (λ l. c.role ∷ l) h ∙ sym (ap (λ (z : Bool). cond z (c.role ∷ roles_of k cs) (roles_of k cs) ++ p ∷ []) b)))
    (λ ne. let b = ne_eqb c.slot k ne in ap (λ (z : Bool). cond z (c.role ∷ roles_of k (cs ++ change k p ∷ [])) (roles_of k (cs ++ change k p ∷ []))) b ∙ (h ∙ sym (ap (λ (z : Bool). cond z (c.role ∷ roles_of k cs) (roles_of k cs) ++ p ∷ []) b)))

roles_else : (k j : ℕ) (cs : List Change) (p : ℕ) → j ≢ k → roles_of j (cs ++ change k p ∷ []) ≡ roles_of j cs
roles_else k j [] p other = ap (λ (b : Bool). cond b (p ∷ []) []) (ne_eqb k j (λ e. other (sym e)))
roles_else k j (c ∷ cs) p other = ap (λ l. cond (eqb c.slot j) (c.role ∷ l) l) (roles_else k j cs p other)

module _ {V : Type 0} (first : ℕ) (values : List V) where
  abbrev D : Type 0
  D = View V

  abbrev St : Type 0
  St = State (Option V) D

  abbrev M : Type 0
  M = Me (Option V) D

  abbrev Rule : St → Type 0
  Rule = IsLockState first values

  legal_more : (k : ℕ) (began : maybe.Option V) (roles : List ℕ) (p : ℕ) (past : List (Entry V)) → Legal k first began roles past → Legal k first began (roles ++ p ∷ []) past
  legal_more k began roles p [] ok = tt
  legal_more k began roles p (e ∷ es) ok = (ok.0, ok.1, ok.2, ok.3, (let a = ok.4 in let n = length-append roles (p ∷ []) in omega arith), ok.5 ∙ sym (role_stays roles p e.change ok.4), legal_more k began roles p es ok.6)

  phase_more : (k w w' : ℕ) (h : Home V) (roles : List ℕ) (p : ℕ) (past : List (Entry V)) (left : maybe.Option V) (f : Phase V) → taken_of w' ≡ taken_of w → generation_of w' ≡ generation_of w
      → PhaseOk w h k roles past left f → PhaseOk w' h k (roles ++ p ∷ []) past left f
  phase_more k w w' h roles p past left free a b ok = (a ∙ ok.0, ok.1)
  phase_more k w w' h roles p past left over a b ok = (b ∙ ok.0, ok.1)
  phase_more k w w' h roles p past left (taken j out t) a b ok = record {
    bit = a ∙ ok.bit;
    room = let r = ok.room in omega arith;
    slot = ok.slot;
    number = ok.number ∙ sym b;
    value = ok.value;
    later = ok.later;
    change = let c = ok.change in let n = length-append roles (p ∷ []) in omega arith;
    pin = ok.pin ∙ sym (role_stays roles p t.change ok.change);
    is_home = ok.is_home;
  }

  slot_at : (began : maybe.Option V) (j w w' : ℕ) (h : Home V) (roles roles' : List ℕ) (p : List (Entry V)) (f : Phase V) → w' ≡ w → roles' ≡ roles → SlotOk first began j w h roles p f → SlotOk first began j w' h roles' p f
  slot_at began j w w' h roles roles' p f a b ok = subst (λ (z : ℕ × List ℕ). SlotOk first began j z.0 h z.1 p f) (λ i. (sym a i, sym b i)) ok

  pub pins : (slots id : ℕ) (me : M) (k e : ℕ) → me.0.admin ≡ true → k < slots → e < 128 → length (roles_of k me.0.changes) < 16777215
      → Allows Rule slots id me k (λ n. (n + (1 + e * 16777216) * 8589934592) % 2 ^ 64) (pinned (step slots k ((1 + e * 16777216) * 8589934592) 0 none) me)
  pins slots id me k e is near small room s r deep at fits = let w = get_or s.words k 0 in let wide = r.wide in let inside : k < length s.homes = omega arith in let ok = r.each_slot k inside in
      let knows = r.each_seat id me.0 at in let mine = knows.administers is in let y : ℕ = (w + (1 + e * 16777216) * 8589934592) % 18446744073709551616 in let p : ℕ = pin_of y in
      let count = ap (λ (l : List ℕ). length l) (mine.1 k) in let c = ok.change in let now = pinned_fields w e fits small (omega arith) in
      let d' : D = with_change k p me.0 in let roles' : List ℕ = r.roles k ++ p ∷ [] in let n = length-append (r.roles k) (p ∷ []) in (
        d',
        keeps,
        tt,
        record {
          wide = length-set s.words k y ∙ wide;
          admin = r.admin;
          roles = put r.roles k roles';
          past = r.past;
          phase = r.phase;
          each_slot = λ j l. dite (ℕ_discrete j k)
              (λ same. subst (λ (z : ℕ). SlotOk first (get_elem? values z) z (get_or (set s.words k y) z 0) (get_elem? s.homes z) (put r.roles k roles' z) (r.past z) (r.phase z)) (sym same)
              (slot_at (get_elem? values k) k y (get_or (set s.words k y) k 0) (get_elem? s.homes k) roles' (put r.roles k roles' k) (r.past k) (r.phase k) (get_or-set_same s.words k y 0 (omega arith)) (put_here r.roles k roles') record {
                generation = now.1 ∙ ok.generation;
                change = let a = now.2 in omega arith;
                pin = sym (role_added (r.roles k) p);
                legal = legal_more k (get_elem? values k) (r.roles k) p (r.past k) ok.legal;
                phase_ok = phase_more k w y (get_elem? s.homes k) (r.roles k) p (r.past k) (left_by (get_elem? values k) (r.past k)) (r.phase k) now.0 now.1 ok.phase_ok;
              }))
              (λ other. slot_at (get_elem? values j) j (get_or s.words j 0) (get_or (set s.words k y) j 0) (get_elem? s.homes j) (r.roles j) (put r.roles k roles' j) (r.past j) (r.phase j)
              (get_or-set_other s.words k j y 0 other) (put_else r.roles k roles' j other) (r.each_slot j l));
          each_seat = λ j x seat. ⊎_elim
              (λ (t : (j ≡ id) × (d' ≡ x)). subst (λ (z : ℕ × D). Knows r.admin (put r.roles k roles') r.past r.phase z.0 z.1) (λ i. (sym t.0 i, t.1 i)) record {
                entries = knows.entries;
                turns = knows.turns;
                administers = λ _. (
                  mine.0,
                  λ q. dite (ℕ_discrete q k)
                      (λ same. subst (λ (z : ℕ). roles_of z d'.changes ≡ put r.roles k roles' z) (sym same) (roles_more k me.0.changes p ∙ (ap (λ l. l ++ p ∷ []) (mine.1 k) ∙ sym (put_here r.roles k roles'))))
                      (λ other. roles_else k q me.0.changes p other ∙ (mine.1 q ∙ sym (put_else r.roles k roles' q other))),
                );
              })
              (λ (t : (j ≢ id) × (get_elem? s.views j ≡ some x)). let was = r.each_seat j x t.1 in record {
                entries = was.entries;
                turns = was.turns;
                administers = λ is'. absurd (t.0 ((was.administers is').0 ∙ sym mine.0));
              }) (at_set s.views id j d' x seat);
          holders = λ i j out t held. holder_stays s.views id me.0 d' i j t at (λ m. m) (r.holders i j out t held);
          idle = r.idle;
          beyond = r.beyond;
          ledger = λ j q. let a = total_set j q s.views id me.0 d' at in let b = r.ledger j q in omega arith;
        },
        (refl, (let f : (1 + e * 16777216) * 8589934592 / 8589934592 / 16777216 ≡ e = omega arith in let q = ok.pin ∙ ap (λ (l : List ℕ). role_at l (length l)) (sym (mine.1 k)) in now.3 ∙ (λ i. (q i + sym f i) % 128))),
      )

  -- a load, by which the administrator learns the change number and the pin
  pub knows_word : (slots id : ℕ) (me : M) (k : ℕ) → me.0.admin ≡ true → k < slots → Allows Rule slots id me k (λ n. n) (known (step slots k 0 0 none) me)
  knows_word slots id me k is near s r deep at fits = let inside : k < length s.homes = omega arith in let ok = r.each_slot k inside in let mine = (r.each_seat id me.0 at).administers is in (
    me.0,
    keeps,
    tt,
    subst (λ (ws : List ℕ). Rule record { words = ws; homes = s.homes; views = set s.views id me.0 }) (sym (set-get_or s.words k 0))
        (subst (λ (vs : List D). Rule record { words = s.words; homes = s.homes; views = vs }) (sym (set_again s.views id me.0 at)) r),
    (refl, ok.change ∙ ap (λ (l : List ℕ). length l) (sym (mine.1 k)), ok.pin ∙ ap (λ (l : List ℕ). role_at l (length l)) (sym (mine.1 k))),
  )
