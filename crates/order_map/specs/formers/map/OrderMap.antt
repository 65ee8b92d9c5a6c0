-- `OrderMap` as a type that may hold the type that holds it, by its values, slot by slot.
use mathlib.Core.Logic.{◌⊎◌, inl, inr}
use Rattle.std.specs.Prelude.{ℕ, ℤ, zero, suc, take, map, Option, Some, None}
use mathlib.Core.Path.{◌≡◌, refl, sym, ap, subst, ◌∙◌}
use mathlib.Core.List.{List, [], ◌∷◌}
use mathlib.Core.Former.{Former, this, const, pair, list, via}
use base.Stored.{Gv, gcons, gnum, code_l, code_map, coded⊎, coded_ℤ, coded_list, coded_ℕ}
use Rattle.std.specs.Coded.{coded_option}
use denote.RattleType.{RattleType}
use denote.HoleLaws.{Alike}
use denote.HolePlaces.{Recodes, struct_places, enum_places, eachs, laid}
use denote.Hole.Fix.{over}
use denote.Param.Weighed.{Weighed, w_via, w_pair, w_or, w_list, w_const}
use denote.Model.Placed.{view_places}
use denote.Struct.Props.{props}
use Rattle.std.specs.formers.vec.Vec as vec
use Rattle.std.specs.declared.alloc.Global.{Global}
use Rattle.std.specs.contracts.alloc.Global as heap
use Rattle.std.specs.contracts.impls.GlobalAllocator.TheImpl.{ghosts}
use Rattle.std.specs.contracts.option.Option as option
use Rattle.order_map.specs.declared.key.Key.{Key}
use Rattle.order_map.specs.declared.entry.Entry.{Entry}
use Rattle.order_map.specs.declared.index.Index.{Index}
use Rattle.order_map.specs.contracts.entry.Entry as E
use Rattle.order_map.specs.declared.key.Key.TheVariants.{Int, Text}
use Rattle.order_map.specs.MapView.{MapView, map_view, entry, maybe, slot, on_entry, split, join, join-split, split-join}
use Rattle.order_map.specs.Arrays.{pairs_in, keys_of, with_pair}
use Rattle.order_map.specs.Chains.{slots_of}
use Rattle.order_map.specs.Sound.{IsSound}
use Rattle.order_map.specs.declared.map.OrderMap.TheInside.{Inside}
use Rattle.order_map.specs.declared.map.OrderMap.TheView.{view, invariant}
use Rattle.order_map.specs.contracts.map.OrderMap as C
use Rattle.order_map.specs.contracts.map.OrderMap.TheInside as I

abbrev pub the_former : Former {0} → Former {0}
the_former g = via (pair (list (slot g)) (const ℕ)) (λ X. MapView (g.Of X)) (λ X m. (m.entries, m.next)) (λ X v. map_view v.0 v.1) (λ X m. refl) (λ X v. refl)

abbrev w_maybe : {g : Former {0}} → Weighed g → Weighed (maybe g)
w_maybe {g} w = w_via (w_or (w_const (Unit {0})) w) (λ X. Option (g.Of X)) (λ X. split) (λ X. join) (λ X. join-split) (λ X. split-join)

abbrev w_slot : {g : Former {0}} → Weighed g → Weighed (slot g)
w_slot {g} w = w_via (w_pair (w_const Key) (w_maybe w)) (λ X. Entry (g.Of X)) (λ X e. (e.key, e.value)) (λ X v. entry v.0 v.1) (λ X e. refl) (λ X v. refl)

abbrev pub the_weighed : {g : Former {0}} → Weighed g → Weighed (the_former g)
the_weighed {g} w = w_via (w_pair (w_list (w_slot w)) (w_const ℕ)) (λ X. MapView (g.Of X)) (λ X m. (m.entries, m.next)) (λ X v. map_view v.0 v.1) (λ X m. refl) (λ X v. refl)

pub the_empty : MapView ⊥
the_empty = map_view [] 0

abbrev fields : Former {0}
fields = via (pair (vec.the_former (slot this) Global) (const (Index × ℕ × ℕ × ℕ))) Inside (λ X a. (a.entries, (a.index, a.count, a.passed, a.next)))
    (λ X v. record { entries = v.0; index = v.1.0; count = v.1.1; passed = v.1.2; next = v.1.3 }) (λ X a. refl) (λ X v. refl)

IsSound-prop : (slots keys front : List Key) (count next : ℕ) (heads links : List ℕ) → IsProp (IsSound slots keys front count next heads links)
IsSound-prop slots keys front count next heads links = hlevel props

IsSound-along : (s s' k k' f f' : List Key) (c n : ℕ) (h l : List ℕ) → s ≡ s' → k ≡ k' → f ≡ f' → IsSound s k f c n h l → IsSound s' k' f' c n h l
IsSound-along s s' k k' f f' c n h l p q r e = subst (λ x. IsSound s' k' x c n h l) r (subst (λ x. IsSound s' x f c n h l) q (subst (λ x. IsSound x k f c n h l) p e))

module _ {X Y : Type 0} (h : X → Y) where
  slots-mapped : (es : List (Entry X)) → slots_of (map (on_entry h) es) ≡ slots_of es
  slots-mapped [] = refl
  slots-mapped (e ∷ es) = ap (λ l. e.key ∷ l) (slots-mapped es)

  key_step : (k : Key) (o : Option X) (ps : List (Key × X)) (qs : List (Key × Y)) → keys_of qs ≡ keys_of ps → keys_of (with_pair k ((maybe this).map X Y h o) qs) ≡ keys_of (with_pair k o ps)
  key_step k None ps qs e = e
  key_step k (Some x) ps qs e = ap (λ l. k ∷ l) e

  keys-mapped : (es : List (Entry X)) → keys_of (pairs_in (map (on_entry h) es)) ≡ keys_of (pairs_in es)
  keys-mapped [] = refl
  keys-mapped (e ∷ es) = key_step e.key e.value (pairs_in es) (pairs_in (map (on_entry h) es)) (keys-mapped es)

  take-mapped : (n : ℕ) (es : List (Entry X)) → take n (map (on_entry h) es) ≡ map (on_entry h) (take n es)
  take-mapped zero es = refl
  take-mapped (suc n) [] = refl
  take-mapped (suc n) (e ∷ es) = ap (λ l. on_entry h e ∷ l) (take-mapped n es)

  front-mapped : (n : ℕ) (es : List (Entry X)) → keys_of (pairs_in (take n (map (on_entry h) es))) ≡ keys_of (pairs_in (take n es))
  front-mapped n es = ap (λ l. keys_of (pairs_in l)) (take-mapped n es) ∙ keys-mapped (take n es)

abbrev key_sum : Key → ℤ ⊎ List ℕ
key_sum (Int n) = inl n
key_sum (Text t) = inr t

abbrev key_code : Key → Gv
key_code k = (coded⊎ coded_ℤ (coded_list coded_ℕ)).code (key_sum k)

module _ (R S : RattleType) (h : R.Denot → S.Denot) where
  abbrev on : Option R.Denot → Option S.Denot
  on = (maybe this).map R.Denot S.Denot h

  variant : (o : Option R.Denot)
      → (option.enum S).as_values (on o) ≡ eachs (option.enum R).parts (option.enum S).parts (tt, ((h, tt), tt)) ((option.enum R).as_values o)
  variant None = refl
  variant (Some x) = refl

  maybe_places : Alike R S h → Alike (option.the_row R) (option.the_row S) on
  maybe_places a = enum_places (option.enum R) (option.enum S) (tt, ((h, tt), tt)) on variant refl (tt, ((laid _ _ _ a, tt), tt))

  slot_places : Alike R S h → Alike (E.the_row R) (E.the_row S) (on_entry h)
  slot_places a = struct_places (E.the_type R) (E.the_type S) ((λ k. k), (on, tt)) (on_entry h) (λ d. refl) refl
      ((refl, (λ n. refl, λ n. refl)), (laid _ _ _ (maybe_places a), tt))

  pub the_places : Alike R S h → Alike (C.the_row R) (C.the_row S) ((the_former this).map R.Denot S.Denot h)
  the_places a = view_places fields (the_former this) view (λ X Y k u. refl) (λ X u. refl) R.Denot S.Denot h (C.the_row R).coded (C.the_row S).coded
      (invariant R.Denot) (invariant S.Denot) (λ u. IsSound-prop _ _ _ _ _ _ _) (λ u. IsSound-prop _ _ _ _ _ _ _)
      (λ u e. IsSound-along _ _ _ _ _ _ _ _ _ _ (sym (slots-mapped h u.entries.items)) (sym (keys-mapped h u.entries.items)) (sym (front-mapped h u.passed u.entries.items)) e)
      (λ u e. IsSound-along _ _ _ _ _ _ _ _ _ _ (slots-mapped h u.entries.items) (keys-mapped h u.entries.items) (front-mapped h u.passed u.entries.items) e)
      (over (I.the_row R)) (over (I.the_row S))
      (struct_places (I.the_type R) (I.the_type S) (vec.mapped (on_entry h), ((λ n. n), ((λ n. n), ((λ n. n), ((λ n. n), tt))))) _ (λ d. refl) refl
      (laid _ _ _ (vec.the_places heap.the_row ghosts (E.the_row R) (E.the_row S) (on_entry h) (slot_places a)), ((refl, (λ n. refl, λ n. refl)), ((refl, (λ n. refl, λ n. refl)), ((refl, (λ n. refl, λ n. refl)), ((refl, (λ n. refl, λ n. refl)), tt))))))

  maybe_recoded : Recodes R S h → (o : Option R.Denot) → (coded_option S.coded).code (on o) ≡ (coded_option R.coded).code o
  maybe_recoded e None = refl
  maybe_recoded e (Some x) = ap (gcons (gnum 1)) (e x)

  entries_recoded : Recodes R S h → (es : List (Entry R.Denot)) → code_l (λ e. gcons (key_code e.key) ((coded_option S.coded).code e.value)) (map (on_entry h) es) ≡ code_l (λ e. gcons (key_code e.key) ((coded_option R.coded).code e.value)) es
  entries_recoded c es = sym (code_map (λ e. gcons (key_code e.key) ((coded_option R.coded).code e.value)) (λ e. gcons (key_code e.key) ((coded_option S.coded).code e.value)) (on_entry h) (λ e. ap (gcons (key_code e.key)) (sym (maybe_recoded c e.value))) es)

  pub the_codes_placed : Recodes R S h → Recodes (C.the_row R) (C.the_row S) ((the_former this).map R.Denot S.Denot h)
  the_codes_placed c d = ap (λ x. gcons x (gnum d.next)) (entries_recoded c d.entries)
