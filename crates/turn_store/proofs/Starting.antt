-- The rule holds of a table that was just made.
use Rattle.std.proofs.Common.{Bool, ◌≡◌, ℕ, zero, suc, ◌*◌, ◌^◌, ◌<◌, List, [], ◌∷◌, map, replicate, length, get_or, sym, refl, subst, arith, Option, Some}
use mathlib.Core.Option.{some, some-injective, some-ne-none}
use lib.ListN.{get_elem?, length-map, length-replicate, get_or-replicate}
use Rattle.atomic_table.specs.Table.{opening}
use Rattle.atomic_table.proofs.Lists.{at_map}
use Rattle.turn_store.specs.declared.view.Hold.{Hold}
use Rattle.turn_store.specs.declared.view.View.{View}
use Rattle.turn_store.specs.Rule.{free, taken, SlotOk, Knows, IsLockState, beginner}

module _ {V : Type 0} where
  there : (xs : List V) (i : ℕ) → i < length xs → (v : V) × (get_elem? xs i ≡ some v)
  there [] i h = absurd (omega arith)
  there (x ∷ xs) zero h = (x, refl)
  there (x ∷ xs) (suc i) h = there xs i (omega arith)

  only : (v d : View V) (j : ℕ) → get_elem? (v ∷ []) j ≡ some d → (j ≡ 0) × (v ≡ d)
  only v d zero e = (refl, some-injective v d e)
  only v d (suc j) e = absurd (some-ne-none d (sym e))

  free_taken : {A : Type 0} (j : ℕ) (out : Bool) (t : Hold V) → free ≡ taken j out t → A
  free_taken j out t e = cc

  pub starts : (first n : ℕ) (values : List V) → first < 2 ^ 32 → n ≡ length values → IsLockState first values (opening (replicate n (first * 2)) (map Some values) beginner)
  starts first n values fits many = let w : ℕ = first * 2 in let slots = length-map values (λ (v : V). Some v) in let deep = length-map (map (λ (v : V). Some v) values) (λ (v : Option V). some v) in let wide = length-replicate n w in record {
    wide = omega arith;
    admin = 0;
    roles = λ _. [];
    past = λ _. [];
    phase = λ _. free;
    each_slot = λ k l. let h = there values k (omega arith) in let is : get_or (replicate n w) k 0 ≡ w = get_or-replicate n k w 0 (omega arith) in
        subst (λ (z : ℕ). SlotOk first (get_elem? values k) k z (get_elem? (map some (map Some values)) k) [] [] free) (sym is) record {
          generation = omega arith;
          change = omega arith;
          pin = omega arith;
          legal = tt;
          phase_ok = (omega arith, record { value = h.0; is_left = h.1; is_home = at_map (λ (v : Option V). some v) (map Some values) k (Some h.0) (at_map (λ (v : V). Some v) values k h.0 h.1) });
        };
    each_seat = λ j d e. let o = only beginner d j e in subst (Knows 0 (λ _. []) (λ _. []) (λ _. free) j) o.1 record {
      entries = λ e (h : ⊥). absurd h;
      turns = λ t (h : ⊥). absurd h;
      administers = λ _. (o.0, λ _. refl);
    };
    holders = λ k j out t e. free_taken j out t e;
    idle = λ k _. refl;
    beyond = λ k _. refl;
    ledger = λ k n. refl;
  }
