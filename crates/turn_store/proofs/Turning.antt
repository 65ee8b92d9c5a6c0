-- Each step keeps the rule of the table.
use Rattle.std.proofs.Common.{◌≡◌, ◌≢◌, ◌⊎◌, ℕ, ◌+◌, ◌/◌, ◌%◌, ◌^◌, ◌<◌, ◌≤◌, cond, Bool, true, false, List, [], ◌∷◌, ◌++◌, length, get_or, set, sym, refl, ap, ◌∙◌, subst, inl, inr, ⊎_elim, arith, Option, Some, None, length-set, get_or-set_other, get_or-set_same, eq-eqb, ne_eqb, bit_or}
use mathlib.Core.Logic.{dite}
use mathlib.Core.Option.{none, some, some-injective, some-ne-none}
use mathlib.Core.Option as maybe
use native.Mathlib.Decide.{ℕ_discrete, dec_le}
use lib.ListN.{get_elem?}
use lib.Seq.{set-get_or}
use Rattle.atomic_table.specs.Table.{Valid, carried_after, Act, chain, State, Me, step, rest, keeps, takes, gives, stepped, Allows}
use Rattle.atomic_table.proofs.Lists.{set_again, at_set, set_here, set_else}
use Rattle.turn_store.specs.declared.view.Entry.{Entry}
use Rattle.turn_store.specs.declared.view.Item.{Item}
use Rattle.turn_store.specs.declared.view.Item.TheVariants.{Failed, Completed}
use Rattle.turn_store.specs.declared.view.Hold.{Hold}
use Rattle.turn_store.specs.declared.view.View.{View}
use Rattle.turn_store.specs.Words.{taken_of, generation_of}
use Rattle.turn_store.specs.Items.{In, InItems, InHeld, count_items, count_past, role_at, roles_of}
use Rattle.turn_store.specs.Rule.{total, left_by, last_change, is_out, Phase, free, over, taken, AtHome, IsTaken, PhaseOk, Legal, SlotOk, Knows, IsHolder, IsLockState, carried_of, is_handy}
use Rattle.turn_store.specs.Items.{hold_at, entry_of}
use Rattle.turn_store.specs.Plays.{refused, holding, with_hand, released, took, fetched, gave}
use Rattle.turn_store.proofs.Counting.{put, put_here, put_else, in_append, count_append, total_set, in_without, hit_else, still_in, set_at, holder_stays, set_twice, hold_there}
use Rattle.turn_store.proofs.WordSteps.{marked_half, marked_taken, released_fields}

abbrev Home : Type 0 → Type 0
Home V = maybe.Option (maybe.Option (Option V))

module _ {V : Type 0} where
  owner : (i j : ℕ) (b c : Bool) (u v : Hold V) → taken i b u ≡ taken j c v → i ≡ j
  owner i j b c u v e = cc

  hold_is : (i j : ℕ) (b c : Bool) (u v : Hold V) → taken i b u ≡ taken j c v → u ≡ v
  hold_is i j b c u v e = cc

  abbrev value_or : V → Option V → V
  value_or d None = d
  value_or d (Some v) = v

  abbrev head_value : V → List (ℕ × Option V) → V
  head_value d [] = d
  head_value d (x ∷ xs) = value_or d x.1

module _ {V : Type 0} (first : ℕ) (values : List V) where
  abbrev D : Type 0
  D = View V

  abbrev St : Type 0
  St = State (Option V) D

  abbrev M : Type 0
  M = Me (Option V) D

  abbrev Rule : St → Type 0
  Rule = IsLockState first values

  same_slot : (began : maybe.Option V) (j w w' : ℕ) (h h' : Home V) (roles : List ℕ) (p p' : List (Entry V)) (f f' : Phase V) → w' ≡ w → h' ≡ h → p' ≡ p → f' ≡ f
      → SlotOk first began j w h roles p f → SlotOk first began j w' h' roles p' f'
  same_slot began j w w' h h' roles p p' f f' a b c e ok = subst (λ (z : ℕ × Home V × List (Entry V) × Phase V). SlotOk first began j z.0 z.1 roles z.2 z.3) (λ i. (sym a i, sym b i, sym c i, sym e i)) ok

  -- a step of the seat id on the slot k
  slot_step : (s : St) (r : Rule s) (k id x : ℕ) (homes' : List (maybe.Option (Option V))) (d w : D) (past' : List (Entry V)) (phase' : Phase V)
      → get_elem? s.views id ≡ some d → k < length s.homes → length homes' ≡ length s.homes → ((j : ℕ) → j ≢ k → get_elem? homes' j ≡ get_elem? s.homes j)
      → ((j : ℕ) (out : Bool) (t : Hold V) → j ≢ id → r.phase k ≡ taken j out t → phase' ≡ r.phase k)
      → ((e : Entry V) → In e (r.past k) → In e past')
      → SlotOk first (get_elem? values k) k x (get_elem? homes' k) (r.roles k) past' phase'
      → Knows r.admin r.roles (put r.past k past') (put r.phase k phase') id w
      → ((n : ℕ) → count_items k n w.items + count_past k n (r.past k) ≡ count_items k n d.items + count_past k n past')
      → ((j n : ℕ) → j ≢ k → count_items j n w.items ≡ count_items j n d.items)
      → ((t : Hold V) → t.slot ≢ k → InHeld t d.held → InHeld t w.held)
      → ((j : ℕ) (out : Bool) (t : Hold V) → phase' ≡ taken j out t → IsHolder (set s.views id w) k j t)
      → Rule record { words = set s.words k x; homes = homes'; views = set s.views id w }
  slot_step s r k id x homes' d w past' phase' at inside as_deep apart mine grows here known counted uncounted still holder = let wide = r.wide in record {
    wide = length-set s.words k x ∙ (r.wide ∙ sym as_deep);
    admin = r.admin;
    roles = r.roles;
    past = put r.past k past';
    phase = put r.phase k phase';
    each_slot = λ j l. dite (ℕ_discrete j k)
        (λ e. subst (λ (z : ℕ). SlotOk first (get_elem? values z) z (get_or (set s.words k x) z 0) (get_elem? homes' z) (r.roles z) (put r.past k past' z) (put r.phase k phase' z)) (sym e)
        (same_slot (get_elem? values k) k x (get_or (set s.words k x) k 0) (get_elem? homes' k) (get_elem? homes' k) (r.roles k) past' (put r.past k past' k) phase' (put r.phase k phase' k)
        (get_or-set_same s.words k x 0 (omega arith)) refl (put_here r.past k past') (put_here r.phase k phase') here))
        (λ other. same_slot (get_elem? values j) j (get_or s.words j 0) (get_or (set s.words k x) j 0) (get_elem? s.homes j) (get_elem? homes' j) (r.roles j) (r.past j) (put r.past k past' j) (r.phase j) (put r.phase k phase' j)
        (get_or-set_other s.words k j x 0 other) (apart j other) (put_else r.past k past' j other) (put_else r.phase k phase' j other) (r.each_slot j (omega arith)));
    each_seat = λ j e is. ⊎_elim
        (λ (t : (j ≡ id) × (w ≡ e)). subst (λ (z : ℕ × D). Knows r.admin r.roles (put r.past k past') (put r.phase k phase') z.0 z.1) (λ i. (sym t.0 i, t.1 i)) known)
        (λ (t : (j ≢ id) × (get_elem? s.views j ≡ some e)). others j e t.0 (r.each_seat j e t.1)) (at_set s.views id j w e is);
    holders = λ i j out t is. dite (ℕ_discrete i k)
        (λ e. subst (λ (z : ℕ). IsHolder (set s.views id w) z j t) (sym e) (holder j out t (sym (put_here r.phase k phase') ∙ (ap (put r.phase k phase') (sym e) ∙ is))))
        (λ other. let h = r.holders i j out t (sym (put_else r.phase k phase' i other) ∙ is) in holder_stays s.views id d w i j t at (still t (λ z. other (sym h.slot ∙ z))) h);
    idle = λ j far. put_else r.phase k phase' j (λ e. omega arith) ∙ r.idle j (omega arith);
    beyond = λ j far. put_else r.past k past' j (λ e. omega arith) ∙ r.beyond j (omega arith);
    ledger = λ j n. dite (ℕ_discrete j k)
        (λ e. subst (λ (z : ℕ). total z n (set s.views id w) ≡ count_past z n (put r.past k past' z)) (sym e)
        (let a = total_set k n s.views id d w at in let b = r.ledger k n in let c = counted n in
        let m : total k n (set s.views id w) ≡ count_past k n past' = omega arith in m ∙ ap (count_past k n) (sym (put_here r.past k past'))))
        (λ other. let a = total_set j n s.views id d w at in let b = r.ledger j n in let c = uncounted j n other in
        let m : total j n (set s.views id w) ≡ count_past j n (r.past j) = omega arith in m ∙ ap (count_past j n) (sym (put_else r.past k past' j other)));
  }
    where
      grown : (e : Entry V) → In e (r.past e.slot) → In e (put r.past k past' e.slot)
      grown e h = dite (ℕ_discrete e.slot k)
          (λ same. subst (λ (z : ℕ). In e (put r.past k past' z)) (sym same) (subst (In e) (sym (put_here r.past k past')) (grows e (subst (λ (z : ℕ). In e (r.past z)) same h))))
          (λ other. subst (In e) (sym (put_else r.past k past' e.slot other)) h)

      others : (j : ℕ) (e : D) → j ≢ id → Knows r.admin r.roles r.past r.phase j e → Knows r.admin r.roles (put r.past k past') (put r.phase k phase') j e
      others j e apart_from knows = record {
        entries = λ x m. grown x (knows.entries x m);
        turns = λ t m. dite (ℕ_discrete t.slot k)
            (λ same. let was = knows.turns t m in let was' : r.phase k ≡ taken j (is_out e.hand t.slot) t = ap r.phase (sym same) ∙ was in
            ap (put r.phase k phase') same ∙ (put_here r.phase k phase' ∙ (mine j (is_out e.hand t.slot) t apart_from was' ∙ was')))
            (λ other. put_else r.phase k phase' t.slot other ∙ knows.turns t m);
        administers = knows.administers;
      }

  -- the seat after a step that leaves the pasts alone
  seat_knows : (s : St) (r : Rule s) (k id : ℕ) (d w : D) (phase' : Phase V) → get_elem? s.views id ≡ some d
      → ((e : Entry V) → InItems e w.items → InItems e d.items) → w.admin ≡ d.admin → w.changes ≡ d.changes
      → ((t : Hold V) → InHeld t w.held → put r.phase k phase' t.slot ≡ taken id (is_out w.hand t.slot) t)
      → Knows r.admin r.roles (put r.past k (r.past k)) (put r.phase k phase') id w
  seat_knows s r k id d w phase' at items admin changes turns = let knows = r.each_seat id d at in record {
    entries = λ e m. dite (ℕ_discrete e.slot k)
        (λ same. subst (λ (z : ℕ). In e (put r.past k (r.past k) z)) (sym same) (subst (In e) (sym (put_here r.past k (r.past k))) (subst (λ (z : ℕ). In e (r.past z)) same (knows.entries e (items e m)))))
        (λ other. subst (In e) (sym (put_else r.past k (r.past k) e.slot other)) (knows.entries e (items e m)));
    turns = turns;
    administers = λ is. let h = knows.administers (sym admin ∙ is) in (h.0, λ j. ap (roles_of j) changes ∙ h.1 j);
  }

  no_look : (e : Entry V) (k w : ℕ) (xs : List (Item V)) → InItems e (xs ++ Failed k w ∷ []) → InItems e xs
  no_look e k w xs h = ⊎_elim (λ a. a) (λ (b : ⊥). absurd b) (in_append e xs (Failed k w ∷ []) h)

  uncounted_look : (j n k w : ℕ) (xs : List (Item V)) → count_items j n (xs ++ Failed k w ∷ []) ≡ count_items j n xs
  uncounted_look j n k w xs = let h = count_append j n xs (Failed k w ∷ []) in omega arith

  -- the word of a slot is marked, and the rest of it stays
  marked : (began : maybe.Option V) (k w : ℕ) (h : Home V) (roles : List ℕ) (past : List (Entry V)) (p p' : Phase V) → PhaseOk (bit_or w 1) h k roles past (left_by began past) p'
      → SlotOk first began k w h roles past p → SlotOk first began k (bit_or w 1) h roles past p'
  marked began k w h roles past p p' ok slot = let half = marked_half w in record {
    generation = ap (λ (z : ℕ). z % 4294967296) half ∙ slot.generation;
    change = ap (λ (z : ℕ). z / 4294967296 % 16777216) half ∙ slot.change;
    pin = ap (λ (z : ℕ). z / 4294967296 / 16777216) half ∙ slot.pin;
    legal = slot.legal;
    phase_ok = ok;
  }

  -- a look that is refused: the word is marked
  looks : (s : St) (r : Rule s) (k id : ℕ) (d : D) (phase' : Phase V) → get_elem? s.views id ≡ some d → k < length s.homes
      → ((j : ℕ) (out : Bool) (t : Hold V) → r.phase k ≡ taken j out t → phase' ≡ r.phase k) → ((j : ℕ) (out : Bool) (t : Hold V) → phase' ≡ taken j out t → r.phase k ≡ phase')
      → PhaseOk (bit_or (get_or s.words k 0) 1) (get_elem? s.homes k) k (r.roles k) (r.past k) (left_by (get_elem? values k) (r.past k)) phase'
      → Rule record { words = set s.words k (bit_or (get_or s.words k 0) 1); homes = s.homes; views = set s.views id (refused k (get_or s.words k 0) d) }
  looks s r k id d phase' at inside same back ok = let w = get_or s.words k 0 in
      slot_step s r k id (bit_or w 1) s.homes d (refused k w d) (r.past k) phase' at inside refl (λ _ _. refl) (λ j out t _ is. same j out t is) (λ _ m. m)
      (marked (get_elem? values k) k w (get_elem? s.homes k) (r.roles k) (r.past k) (r.phase k) phase' ok (r.each_slot k inside))
      (seat_knows s r k id d (refused k w d) phase' at (λ e m. no_look e k w d.items m) refl refl
      (λ t m. let was = (r.each_seat id d at).turns t m in dite (ℕ_discrete t.slot k)
      (λ e. let was' : r.phase k ≡ taken id (is_out d.hand t.slot) t = ap r.phase (sym e) ∙ was in ap (put r.phase k phase') e ∙ (put_here r.phase k phase' ∙ (same id (is_out d.hand t.slot) t was' ∙ was')))
      (λ other. put_else r.phase k phase' t.slot other ∙ was)))
      (λ n. ap (λ (z : ℕ). z + count_past k n (r.past k)) (uncounted_look k n k w d.items))
      (λ j n _. uncounted_look j n k w d.items) (λ _ _ m. m) (λ j out t is. holder_stays s.views id d (refused k w d) k j t at (λ m. m) (r.holders k j out t (back j out t is ∙ is)))

  free_over : (j : ℕ) (out : Bool) (t : Hold V) → free ≡ taken j out t → ⊥
  free_over j out t e = cc

  over_taken : (j : ℕ) (out : Bool) (t : Hold V) → over ≡ taken j out t → ⊥
  over_taken j out t e = cc

  -- the phase after a look at a turn that has ended for good, or at one that is held
  look_phase : (k w : ℕ) (h : Home V) (roles : List ℕ) (past : List (Entry V)) (left : maybe.Option V) (p : Phase V) → (generation_of w ≡ 4294967295) ⊎ (taken_of w ≡ 1) → PhaseOk w h k roles past left p
      → (p' : Phase V) × ((j : ℕ) (out : Bool) (t : Hold V) → p ≡ taken j out t → p' ≡ p) × ((j : ℕ) (out : Bool) (t : Hold V) → p' ≡ taken j out t → p ≡ p') × PhaseOk (bit_or w 1) h k roles past left p'
  look_phase k w h roles past left free c ok = (over, (λ j out t e. absurd (free_over j out t e)), (λ j out t e. absurd (over_taken j out t e)), (ap (λ (z : ℕ). z % 4294967296) (marked_half w) ∙ ⊎_elim (λ a. a) (λ (b : taken_of w ≡ 1). let z = ok.0 in absurd (omega arith)) c, ok.1))
  look_phase k w h roles past left over c ok = (over, (λ j out t e. refl), (λ j out t e. refl), (ap (λ (z : ℕ). z % 4294967296) (marked_half w) ∙ ok.0, ok.1))
  look_phase k w h roles past left (taken i b u) c ok = let same = ap (λ (z : ℕ). z % 4294967296) (marked_half w) in (
    taken i b u,
    (λ j out t e. refl),
    (λ j out t e. refl),
    record {
      bit = marked_taken w;
      room = let g = ok.room in omega arith;
      slot = ok.slot;
      number = ok.number ∙ sym same;
      value = ok.value;
      later = ok.later;
      change = ok.change;
      pin = ok.pin;
      is_home = ok.is_home;
    },
  )

  -- where the bit is clear the turn is free
  free_home : (k w : ℕ) (h : Home V) (roles : List ℕ) (past : List (Entry V)) (left : maybe.Option V) (p : Phase V) → generation_of w < 4294967295 → taken_of w ≡ 0 → PhaseOk w h k roles past left p → (p ≡ free) × AtHome h left
  free_home k w h roles past left free room bit ok = (refl, ok.1)
  free_home k w h roles past left over room bit ok = let z = ok.0 in absurd (omega arith)
  free_home k w h roles past left (taken i b u) room bit ok = let z = ok.bit in absurd (omega arith)

  last_change_fits : (k : ℕ) (began : maybe.Option V) (roles : List ℕ) (past : List (Entry V)) → Legal k first began roles past → last_change past ≤ length roles
  last_change_fits k began roles [] ok = omega arith
  last_change_fits k began roles (e ∷ es) ok = ok.4

  here_out : (k : ℕ) → is_out (Some k) k ≡ true
  here_out k = eq-eqb k k refl

  else_in : (k j : ℕ) → j ≢ k → is_out (Some k) j ≡ false
  else_in k j other = ne_eqb k j (λ e. other (sym e))

  taken_step : (s : St) (r : Rule s) (k id : ℕ) (d : D) → get_elem? s.views id ≡ some d → k < length s.homes → d.hand ≡ None → generation_of (get_or s.words k 0) < 4294967295 → taken_of (get_or s.words k 0) ≡ 0
      → (v : V) × (get_elem? s.homes k ≡ some (some (Some v)))
      × Rule record { words = set s.words k (bit_or (get_or s.words k 0) 1); homes = set s.homes k none; views = set s.views id (with_hand (Some k) (holding (hold_at k (get_or s.words k 0) v) d)) }
  taken_step s r k id d at inside empty below zero_bit = let w = get_or s.words k 0 in let ok = r.each_slot k inside in let half = marked_half w in let left : maybe.Option V = left_by (get_elem? values k) (r.past k) in
      let fr = free_home k w (get_elem? s.homes k) (r.roles k) (r.past k) left (r.phase k) below zero_bit ok.phase_ok in let home = fr.1 in
      let t : Hold V = hold_at k w home.value in let d' : D = with_hand (Some k) (holding t d) in let homes' : List (maybe.Option (Option V)) = set s.homes k none in (
        home.value,
        home.is_home,
        slot_step s r k id (bit_or w 1) homes' d d' (r.past k) (taken id true t) at inside (length-set s.homes k none) (λ j other. set_else s.homes k j none other)
            (λ j out u _ is. absurd (free_over j out u (sym fr.0 ∙ is))) (λ _ m. m)
            record {
              generation = ap (λ (z : ℕ). z % 4294967296) half ∙ ok.generation;
              change = ap (λ (z : ℕ). z / 4294967296 % 16777216) half ∙ ok.change;
              pin = ap (λ (z : ℕ). z / 4294967296 / 16777216) half ∙ ok.pin;
              legal = ok.legal;
              phase_ok = record {
                bit = marked_taken w;
                room = let g = ap (λ (z : ℕ). z % 4294967296) half in omega arith;
                slot = refl;
                number = sym (ap (λ (z : ℕ). z % 4294967296) half);
                value = home.is_left;
                later = let a = last_change_fits k (get_elem? values k) (r.roles k) (r.past k) ok.legal in let b = ok.change in omega arith;
                change = let b = ok.change in omega arith;
                pin = ok.pin ∙ ap (role_at (r.roles k)) (sym ok.change);
                is_home = set_here s.homes k none inside;
              };
            }
            (seat_knows s r k id d d' (taken id true t) at (λ e m. m) refl refl
            (λ u m. ⊎_elim
            (λ (e : u ≡ t). subst (λ (z : Hold V). put r.phase k (taken id true t) z.slot ≡ taken id (is_out (Some k) z.slot) z) (sym e) (put_here r.phase k (taken id true t) ∙ ap (λ (b : Bool). taken id b t) (sym (here_out k))))
            (λ (h : InHeld u d.held). let was = (r.each_seat id d at).turns u h in
            let other : u.slot ≢ k = λ e. free_over id (is_out d.hand u.slot) u (sym fr.0 ∙ (ap r.phase (sym e) ∙ was)) in
            put_else r.phase k (taken id true t) u.slot other ∙ (was ∙ ap (λ (b : Bool). taken id b u) (ap (λ (z : Option ℕ). is_out z u.slot) empty ∙ sym (else_in k u.slot other))))
            m))
            (λ n. refl) (λ j n _. refl) (λ u _ m. inr m)
            (λ j out u is. let who = owner j id out true u t (sym is) in let same = hold_is j id out true u t (sym is) in
            subst (λ (z : ℕ × Hold V). IsHolder (set s.views id d') k z.0 z.1) (λ i. (sym who i, sym same i)) record { view = d'; is_there = set_at s.views id d d' at; has = inl refl; slot = refl }),
      )

  -- the slot of a turn goes out or home, empty, at a load
  carries : (s : St) (r : Rule s) (k id : ℕ) (d : D) (h : Option ℕ) (out : Bool) (t : Hold V) (homes' : List (maybe.Option (Option V))) → get_elem? s.views id ≡ some d → k < length s.homes → length homes' ≡ length s.homes
      → ((j : ℕ) → j ≢ k → get_elem? homes' j ≡ get_elem? s.homes j) → InHeld t d.held → t.slot ≡ k → is_out h k ≡ out → ((j : ℕ) → j ≢ k → is_out h j ≡ is_out d.hand j)
      → get_elem? homes' k ≡ cond out (some none) (some (some None))
      → Rule record { words = set s.words k (get_or s.words k 0); homes = homes'; views = set s.views id (with_hand h d) }
  carries s r k id d h out t homes' at inside as_deep apart held on is else_is home = let w = get_or s.words k 0 in let knows = r.each_seat id d at in let ok = r.each_slot k inside in
      let was : r.phase k ≡ taken id (is_out d.hand t.slot) t = ap r.phase (sym on) ∙ knows.turns t held in
      let old : IsTaken w (get_elem? s.homes k) k (r.roles k) (r.past k) (left_by (get_elem? values k) (r.past k)) (is_out d.hand t.slot) t
      = subst (PhaseOk w (get_elem? s.homes k) k (r.roles k) (r.past k) (left_by (get_elem? values k) (r.past k))) was ok.phase_ok in
      slot_step s r k id w homes' d (with_hand h d) (r.past k) (taken id out t) at inside as_deep apart
      (λ j b u other is'. absurd (other (owner j id b (is_out d.hand t.slot) u t (sym is' ∙ was)))) (λ _ m. m)
      record {
        generation = ok.generation;
        change = ok.change;
        pin = ok.pin;
        legal = ok.legal;
        phase_ok = record {
          bit = old.bit;
          room = old.room;
          slot = on;
          number = old.number;
          value = old.value;
          later = old.later;
          change = old.change;
          pin = old.pin;
          is_home = home;
        };
      }
      (seat_knows s r k id d (with_hand h d) (taken id out t) at (λ e m. m) refl refl
      (λ u m. let was_u = knows.turns u m in dite (ℕ_discrete u.slot k)
      (λ e. let both : taken id (is_out d.hand u.slot) u ≡ taken id (is_out d.hand t.slot) t = sym was_u ∙ (ap r.phase e ∙ was) in let same : u ≡ t = hold_is id id (is_out d.hand u.slot) (is_out d.hand t.slot) u t both in
      ap (put r.phase k (taken id out t)) e ∙ (put_here r.phase k (taken id out t) ∙ (λ i. taken id ((sym is ∙ ap (is_out h) (sym e)) i) (sym same i))))
      (λ other. put_else r.phase k (taken id out t) u.slot other ∙ (was_u ∙ ap (λ (b : Bool). taken id b u) (sym (else_is u.slot other))))))
      (λ n. refl) (λ j n _. refl) (λ u _ m. m)
      (λ j b u is'. let who = owner j id b out u t (sym is') in let same = hold_is j id b out u t (sym is') in
      subst (λ (z : ℕ × Hold V). IsHolder (set s.views id (with_hand h d)) k z.0 z.1) (λ i. (sym who i, sym same i)) record { view = with_hand h d; is_there = set_at s.views id d (with_hand h d) at; has = held; slot = on })

  -- the slot j, which the seat carries, goes home
  puts_home : (s : St) (r : Rule s) (j id : ℕ) (d : D) → get_elem? s.views id ≡ some d → d.hand ≡ Some j → is_handy (Some j) d.held ≡ true
      → Rule record { words = s.words; homes = set s.homes j (some None); views = set s.views id (with_hand None d) } × (j < length s.homes) × ((out : Bool) × (t : Hold V) × (r.phase j ≡ taken id out t))
  puts_home s r j id d at hand handy = let g = hold_there j d.held handy in let t = g.0 in let was : r.phase j ≡ taken id (is_out d.hand t.slot) t = ap r.phase (sym g.2) ∙ (r.each_seat id d at).turns t g.1 in
      let inside : j < length s.homes = dite (dec_le (length s.homes) j) (λ far. absurd (free_over id (is_out d.hand t.slot) t (sym (r.idle j far) ∙ was))) (λ near. omega arith) in (
        subst (λ (ws : List ℕ). Rule record { words = ws; homes = set s.homes j (some None); views = set s.views id (with_hand None d) }) (set-get_or s.words j 0)
            (carries s r j id d None false t (set s.homes j (some None)) at inside (length-set s.homes j (some None)) (λ i other. set_else s.homes j i (some None) other) g.1 g.2 refl
            (λ i other. sym (ap (λ (z : Option ℕ). is_out z i) hand ∙ else_in j i other)) (set_here s.homes j (some None) inside)),
        inside,
        (is_out d.hand t.slot, t, was),
      )

  pub takes_turn : (slots id : ℕ) (me : M) (k : ℕ) → me.1 ≡ carried_of me.0.hand → is_handy me.0.hand me.0.held ≡ true → k < slots → Allows Rule slots id me k (λ n. bit_or n 1) (took (step slots k 1 0 none) me)
  takes_turn slots id me k carried handy near s r deep at fits = let w = get_or s.words k 0 in let inside : k < length s.homes = omega arith in let ok = r.each_slot k inside in
      let left : maybe.Option V = left_by (get_elem? values k) (r.past k) in let no : (c : (generation_of w ≡ 4294967295) ⊎ (taken_of w ≡ 1)) → Rule record { words = set s.words k (bit_or w 1); homes = s.homes; views = set s.views id (refused k w me.0) }
      = λ c. let g = look_phase k w (get_elem? s.homes k) (r.roles k) (r.past k) left (r.phase k) c ok.phase_ok in looks s r k id me.0 g.0 at inside g.1 g.2 g.3 in
      dite (ℕ_discrete (generation_of w) 4294967295)
      (λ spent. (refused k w me.0, keeps, tt, no (inl spent), ((λ _. refl), (λ a. absurd (omega arith)), λ a. absurd (omega arith))))
      (λ room. dite (ℕ_discrete (taken_of w) 1)
      (λ busy. (refused k w me.0, keeps, tt, no (inr busy), ((λ a. absurd (room a)), (λ _ _. refl), λ _ a. absurd (omega arith))))
      (λ clear. let below : generation_of w < 4294967295 = omega arith in let zero_bit : taken_of w ≡ 0 = omega arith in taking inside below zero_bit room clear me.0.hand refl carried handy))
    where
      taking : k < length s.homes → generation_of (get_or s.words k 0) < 4294967295 → taken_of (get_or s.words k 0) ≡ 0 → generation_of (get_or s.words k 0) ≢ 4294967295 → taken_of (get_or s.words k 0) ≢ 1 → (h : Option ℕ) → me.0.hand ≡ h → me.1 ≡ carried_of h → is_handy h me.0.held ≡ true
          → (x : D) × (a : Act (Option V)) × Valid s.homes me.1 a × Rule (stepped s k (bit_or (get_or s.words k 0) 1) id me.1 x a) × took (step slots k 1 0 none) me (get_or s.words k 0) (x, carried_after me.1 a)
      taking inside below zero_bit room clear None hand carried handy = let g = taken_step s r k id me.0 at inside hand below zero_bit in (
        with_hand (Some k) (holding (hold_at k (get_or s.words k 0) g.0) me.0),
        takes k (Some g.0),
        g.1,
        g.2,
        ((λ a. absurd (room a)), (λ _ a. absurd (clear a)), λ _ _. (g.0, ap (λ (cs : List (ℕ × Option V)). (with_hand (Some k) (holding (hold_at k (get_or s.words k 0) g.0) me.0), (k, Some g.0) ∷ cs)) carried)),
      )
      taking inside below zero_bit room clear (Some j) hand carried handy = let p = puts_home s r j id me.0 at hand handy in let d1 : D = with_hand None me.0 in let homes1 : List (maybe.Option (Option V)) = set s.homes j (some None) in
          let s1 : St = record { words = s.words; homes = homes1; views = set s.views id d1 } in let n = length-set s.homes j (some None) in
          let g = taken_step s1 p.0 k id d1 (set_at s.views id me.0 d1 at) (omega arith) refl below zero_bit in
          let x : D = with_hand (Some k) (holding (hold_at k (get_or s.words k 0) g.0) me.0) in
          let after : Rule record { words = set s.words k (bit_or (get_or s.words k 0) 1); homes = set homes1 k none; views = set s.views id x }
          = subst (λ (vs : List D). Rule record { words = set s.words k (bit_or (get_or s.words k 0) 1); homes = set homes1 k none; views = vs }) (set_twice s.views id d1 x) g.2 in
          let act : Act (Option V) = chain gives (takes k (Some g.0)) in (
            x,
            act,
            subst (λ (cs : List (ℕ × Option V)). Valid s.homes cs act) (sym carried) (tt, g.1),
            subst (λ (cs : List (ℕ × Option V)). Rule (stepped s k (bit_or (get_or s.words k 0) 1) id cs x act)) (sym carried) after,
            ((λ a. absurd (room a)), (λ _ a. absurd (clear a)), λ _ _. (g.0, ap (λ (cs : List (ℕ × Option V)). (x, carried_after cs act)) carried)),
          )

  pub fetches : (slots id : ℕ) (me : M) (k : ℕ) (t : Hold V) → me.1 ≡ carried_of me.0.hand → is_handy me.0.hand me.0.held ≡ true → InHeld t me.0.held → t.slot ≡ k → k < slots → Allows Rule slots id me k (λ n. n) (fetched (step slots k 0 0 none) me)
  fetches slots id me k t carried handy held on near s r deep at fits = fetching (omega arith) me.0.hand refl carried handy
    where
      -- the slot comes out, empty
      brings : (s1 : St) (r1 : Rule s1) (d : D) → get_elem? s1.views id ≡ some d → InHeld t d.held → d.hand ≡ None → k < length s1.homes
          → (get_elem? s1.homes k ≡ some (some None)) × Rule record { words = set s1.words k (get_or s1.words k 0); homes = set s1.homes k none; views = set s1.views id (with_hand (Some k) d) }
      brings s1 r1 d at1 held1 empty inside1 = let knows = r1.each_seat id d at1 in let ok = r1.each_slot k inside1 in
          let was : r1.phase k ≡ taken id false t = ap r1.phase (sym on) ∙ (knows.turns t held1 ∙ ap (λ (z : Option ℕ). taken id (is_out z t.slot) t) empty) in
          let old : IsTaken (get_or s1.words k 0) (get_elem? s1.homes k) k (r1.roles k) (r1.past k) (left_by (get_elem? values k) (r1.past k)) false t
          = subst (PhaseOk (get_or s1.words k 0) (get_elem? s1.homes k) k (r1.roles k) (r1.past k) (left_by (get_elem? values k) (r1.past k))) was ok.phase_ok in (
            old.is_home,
            carries s1 r1 k id d (Some k) true t (set s1.homes k none) at1 inside1 (length-set s1.homes k none) (λ j other. set_else s1.homes k j none other) held1 on (here_out k)
                (λ j other. else_in k j other ∙ sym (ap (λ (z : Option ℕ). is_out z j) empty)) (set_here s1.homes k none inside1),
          )

      fetching : k < length s.homes → (h : Option ℕ) → me.0.hand ≡ h → me.1 ≡ carried_of h → is_handy h me.0.held ≡ true
          → (x : D) × (a : Act (Option V)) × Valid s.homes me.1 a × Rule (stepped s k (get_or s.words k 0) id me.1 x a) × fetched (step slots k 0 0 none) me (get_or s.words k 0) (x, carried_after me.1 a)
      fetching inside None hand carried handy = let g = brings s r me.0 at held hand inside in
          (with_hand (Some k) me.0, takes k None, g.0, g.1, ap (λ (cs : List (ℕ × Option V)). (with_hand (Some k) me.0, (k, None) ∷ cs)) carried)
      fetching inside (Some j) hand carried handy = dite (ℕ_discrete j k)
          (λ same. let stays : me.0 ≡ with_hand (Some k) me.0 = λ i. with_hand ((hand ∙ ap (λ (z : ℕ). let y : Option ℕ = Some z in y) same) i) me.0 in (
            me.0,
            keeps,
            tt,
            subst (λ (ws : List ℕ). Rule record { words = ws; homes = s.homes; views = set s.views id me.0 }) (sym (set-get_or s.words k 0))
                (subst (λ (vs : List D). Rule record { words = s.words; homes = s.homes; views = vs }) (sym (set_again s.views id me.0 at)) r),
            (λ i. (stays i, (carried ∙ ap (λ (z : ℕ). let y : List (ℕ × Option V) = (z, None) ∷ [] in y) same) i)),
          ))
          (λ other. let p = puts_home s r j id me.0 at hand handy in let d1 : D = with_hand None me.0 in let homes1 : List (maybe.Option (Option V)) = set s.homes j (some None) in
          let s1 : St = record { words = s.words; homes = homes1; views = set s.views id d1 } in let n = length-set s.homes j (some None) in
          let g = brings s1 p.0 d1 (set_at s.views id me.0 d1 at) held refl (omega arith) in let x : D = with_hand (Some k) me.0 in
          let act : Act (Option V) = chain gives (takes k None) in
          let after : Rule record { words = set s.words k (get_or s.words k 0); homes = set homes1 k none; views = set s.views id x }
          = subst (λ (vs : List D). Rule record { words = set s.words k (get_or s.words k 0); homes = set homes1 k none; views = vs }) (set_twice s.views id d1 x) g.1 in (
            x,
            act,
            subst (λ (cs : List (ℕ × Option V)). Valid s.homes cs act) (sym carried) (tt, g.0),
            subst (λ (cs : List (ℕ × Option V)). Rule (stepped s k (get_or s.words k 0) id cs x act)) (sym carried) after,
            ap (λ (cs : List (ℕ × Option V)). (x, carried_after cs act)) carried,
          ))

  pub releases : (slots id : ℕ) (me : M) (k : ℕ) (t : Hold V) (v : V) → me.0.hand ≡ Some k → InHeld t me.0.held → t.slot ≡ k → me.1 ≡ (k, Some v) ∷ rest me.1 → k < slots
      → Allows Rule slots id me k (λ n. (n + 1) % 2 ^ 64) (gave (step slots k 1 0 none) me)
  releases slots id me k t v hand held on carried near s r deep at fits = let w = get_or s.words k 0 in let inside : k < length s.homes = omega arith in let homes' : List (maybe.Option (Option V)) = set s.homes k (some (Some v)) in
      let knows = r.each_seat id me.0 at in let ok = r.each_slot k inside in let x : ℕ = (w + 1) % 18446744073709551616 in let e : Entry V = entry_of t v in let d' : D = released t v me.0 in
      let out : Bool = is_out me.0.hand t.slot in
      let was : r.phase k ≡ taken id out t = ap r.phase (sym on) ∙ knows.turns t held in
      let old : IsTaken w (get_elem? s.homes k) k (r.roles k) (r.past k) (left_by (get_elem? values k) (r.past k)) out t
      = subst (PhaseOk w (get_elem? s.homes k) k (r.roles k) (r.past k) (left_by (get_elem? values k) (r.past k))) was ok.phase_ok in
      let now = released_fields w fits old.bit old.room in (
        d',
        gives,
        tt,
        subst (λ (cs : List (ℕ × Option V)). Rule (stepped s k x id cs d' gives)) (sym carried)
            (slot_step s r k id x homes' me.0 d' (e ∷ r.past k) free at inside (length-set s.homes k (some (Some v))) (λ j other. set_else s.homes k j (some (Some v)) other)
            (λ j b u other is'. absurd (other (owner j id b out u t (sym is' ∙ was)))) (λ _ m. inr m)
            record {
              generation = now.1 ∙ (let a = ok.generation in omega arith);
              change = now.2 ∙ ok.change;
              pin = now.3 ∙ ok.pin;
              legal = (on, old.number ∙ ok.generation, sym old.value, old.later, old.change, old.pin, ok.legal);
              phase_ok = (now.0, record { value = v; is_left = refl; is_home = set_here s.homes k (some (Some v)) inside });
            }
            record {
              entries = λ y m. ⊎_elim
                  (λ (a : InItems y me.0.items). let h = knows.entries y a in dite (ℕ_discrete y.slot k)
                  (λ same. subst (λ (z : ℕ). In y (put r.past k (e ∷ r.past k) z)) (sym same) (subst (In y) (sym (put_here r.past k (e ∷ r.past k))) (inr (subst (λ (z : ℕ). In y (r.past z)) same h))))
                  (λ other. subst (In y) (sym (put_else r.past k (e ∷ r.past k) y.slot other)) h))
                  (λ (b : (y ≡ e) ⊎ ⊥). ⊎_elim (λ (c : y ≡ e). let same : y.slot ≡ k = ap (λ (z : Entry V). z.slot) c ∙ on in
                  subst (λ (z : ℕ). In y (put r.past k (e ∷ r.past k) z)) (sym same) (subst (In y) (sym (put_here r.past k (e ∷ r.past k))) (inl c))) (λ (c : ⊥). absurd c) b)
                  (in_append y me.0.items (Completed e ∷ []) m);
              turns = λ u m. let g = in_without u t.slot me.0.held m in let other : u.slot ≢ k = λ z. g.1 (z ∙ sym on) in
                  put_else r.phase k free u.slot other ∙ (knows.turns u g.0 ∙ ap (λ (b : Bool). taken id b u) (ap (λ (z : Option ℕ). is_out z u.slot) hand ∙ else_in k u.slot other));
              administers = knows.administers;
            }
            (λ n. let c = count_append k n me.0.items (Completed e ∷ []) in omega arith)
            (λ j n other. let c = count_append j n me.0.items (Completed e ∷ []) in let z = hit_else j n e (λ f. other (sym f ∙ on)) in omega arith)
            (λ u other m. still_in u t.slot me.0.held (λ z. other (z ∙ on)) m) (λ j b u is'. absurd (free_over j b u is'))),
        (
          refl,
          λ u y m is c. let h = knows.turns u m in let same : u ≡ t = hold_is id id (is_out me.0.hand u.slot) out u t (sym h ∙ (ap r.phase is ∙ was)) in
              let value : v ≡ y = first_is v y (rest me.1) (rest me.1) (sym carried ∙ c) in λ i. released (sym same i) (value i) me.0,
        ),
      )
    where
      first_is : (a b : V) (xs ys : List (ℕ × Option V)) → let p : List (ℕ × Option V) = (k, Some a) ∷ xs in let q : List (ℕ × Option V) = (k, Some b) ∷ ys in p ≡ q → a ≡ b
      first_is a b xs ys e = ap (head_value a) e
