-- LockRule that are taken alone: the words and the values after a call.
use Rattle.std.proofs.Common.{zero, suc, map, ◌≡◌, ◌≢◌, ℕ, ◌+◌, ◌<◌, List, [], ◌∷◌, length, get_or, set, sym, refl, ap, ◌∙◌, subst, arith, Option, Some, None, length-set, get_or-set_other, get_or-set_same, bit_or}
use Rattle.std.specs.Option.{IsSome}
use mathlib.Core.Logic.{dite}
use mathlib.Core.Option.{some, some-injective, some-ne-none}
use native.Mathlib.Decide.{ℕ_discrete}
use lib.ListN.{get_elem?}
use Rattle.atomic_table.proofs.Lists.{set_here, set_else}
use Rattle.turn_store.specs.Words.{taken_of}
use Rattle.turn_store.proofs.WordSteps.{marked_taken}

module _ {V : Type 0} where
  abbrev pub AtHome : List ℕ → List (Option V) → Type 0
  AtHome words values = (k : ℕ) → k < length words → taken_of (get_or words k 0) ≡ 0 → get_elem? values k ≡ some None → ⊥

  -- the word is marked: nothing is said of that slot any more
  pub marked_home : (words : List ℕ) (values : List (Option V)) (k w : ℕ) (x : Option V) → AtHome words values → k < length words → AtHome (set words k (bit_or w 1)) (set values k x)
  marked_home words values k w x home inside j l clear gone = let n = length-set words k (bit_or w 1) in dite (ℕ_discrete j k)
      (λ e. let a = get_or-set_same words k (bit_or w 1) 0 inside in let b : get_or (set words k (bit_or w 1)) j 0 ≡ bit_or w 1 = ap (λ (z : ℕ). get_or (set words k (bit_or w 1)) z 0) e ∙ a in let m = marked_taken w in
      let c : taken_of (bit_or w 1) ≡ 0 = ap (λ (z : ℕ). taken_of z) (sym b) ∙ clear in omega arith)
      (λ ne. home j (omega arith) (ap (λ (z : ℕ). taken_of z) (sym (get_or-set_other words k j (bit_or w 1) 0 ne)) ∙ clear) (sym (set_else values k j x ne) ∙ gone))

  pub marked_only : (words : List ℕ) (values : List (Option V)) (k w : ℕ) → AtHome words values → k < length words → AtHome (set words k (bit_or w 1)) values
  marked_only words values k w home inside j l clear gone = let n = length-set words k (bit_or w 1) in dite (ℕ_discrete j k)
      (λ e. let a = get_or-set_same words k (bit_or w 1) 0 inside in let b : get_or (set words k (bit_or w 1)) j 0 ≡ bit_or w 1 = ap (λ (z : ℕ). get_or (set words k (bit_or w 1)) z 0) e ∙ a in let m = marked_taken w in
      let c : taken_of (bit_or w 1) ≡ 0 = ap (λ (z : ℕ). taken_of z) (sym b) ∙ clear in omega arith)
      (λ ne. home j (omega arith) (ap (λ (z : ℕ). taken_of z) (sym (get_or-set_other words k j (bit_or w 1) 0 ne)) ∙ clear) gone)

  -- a value is put home
  pub given_home : (words : List ℕ) (values : List (Option V)) (k w : ℕ) (v : V) → AtHome words values → k < length values → AtHome (set words k w) (set values k (Some v))
  given_home words values k w v home inside j l clear gone = let n = length-set words k w in dite (ℕ_discrete j k)
      (λ e. some_none (sym (set_here values k (Some v) inside) ∙ (ap (get_elem? (set values k (Some v))) (sym e) ∙ gone)))
      (λ ne. home j (omega arith) (ap (λ (z : ℕ). taken_of z) (sym (get_or-set_other words k j w 0 ne)) ∙ clear) (sym (set_else values k j (Some v) ne) ∙ gone))
    where
      some_none : some (Some v) ≡ some None → ⊥
      some_none e = cc

  pub is_some : (x : Option V) → (x ≡ None → ⊥) → IsSome x
  is_some None not = absurd (not refl)
  is_some (Some v) not = search Rattle.std.proofs.Common.rules

  -- the bit of a word stays
  pub pinned_home : (words : List ℕ) (values : List (Option V)) (k y : ℕ) → AtHome words values → k < length words → taken_of y ≡ taken_of (get_or words k 0) → AtHome (set words k y) values
  pinned_home words values k y home inside same j l clear gone = let n = length-set words k y in dite (ℕ_discrete j k)
      (λ e. let a = get_or-set_same words k y 0 inside in home k inside (sym same ∙ (ap (λ (z : ℕ). taken_of z) (sym (ap (λ (z : ℕ). get_or (set words k y) z 0) e ∙ a)) ∙ clear)) (ap (get_elem? values) (sym e) ∙ gone))
      (λ ne. home j (omega arith) (ap (λ (z : ℕ). taken_of z) (sym (get_or-set_other words k j y 0 ne)) ∙ clear) gone)

  pub all_home : (xs : List V) (k : ℕ) → get_elem? (map Some xs) k ≡ some None → ⊥
  all_home [] k e = absurd (some-ne-none None (sym e))
  all_home (x ∷ xs) zero e = not_none (some-injective (Some x) None e)
    where
      not_none : Some x ≡ None → ⊥
      not_none e = cc
  all_home (x ∷ xs) (suc k) e = all_home xs k e
