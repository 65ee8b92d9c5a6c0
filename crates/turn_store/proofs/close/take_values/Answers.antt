use Rattle.std.proofs.Common.{rules, arith, ◌≡◌, ℕ, ◌+◌, ◌++◌, ◌∷◌, [], Bool, false, true, List, get_or, set, sym, ap, ◌∙◌, subst, take, get_or-set_other, get_or-set_same}
use mathlib.Core.Logic.{dite}
use native.Mathlib.Decide.{ℕ_discrete}
use Rattle.std.proofs.lemmas.Grind.{common_steps}
use Rattle.std.specs.Slots.{slots_items, slots_filled, slots_counts}
use Rattle.turn_store.proofs.Taking.{take_more}
use Rattle.turn_store.proofs.close.take_values.Goals as goal

pub loop-i-preserved : goal.loop-i-preserved
loop-i-preserved g c = let inv = c.loop-i.invariant in let others = c.take.ensures.others in let i : ℕ = c.loop-i.i in let was : List Bool = slots_filled c.loop-i.closed.slots in
    let count = (slots_counts c.loop-i.closed.slots).1 in let len = inv.1 in (
      others.0 ∙ inv.0,
      others.2 ∙ inv.1,
      c.push_reserved.ensures.items ∙ (ap (λ l. l ++ c.take.result ∷ []) inv.2 ∙ (sym (take_more (slots_items c.loop-i.closed.slots) i c.take.result c.take.ensures.value) ∙ ap (take (i + 1)) (sym others.0))),
      first_of (search rules, grind (arith, common_steps)),
      (λ k low high. subst (λ (l : List Bool). get_or l k false ≡ true) (sym others.1) (get_or-set_other was i k false false (λ e. omega arith) ∙ inv.4 k (omega arith) (let a = others.2 in omega arith))),
      (λ k low. subst (λ (l : List Bool). get_or l k false ≡ false) (sym others.1) (dite (ℕ_discrete k i)
          (λ e. subst (λ (z : ℕ). get_or (set was i false) z false ≡ false) (sym e) (get_or-set_same was i false false (let t = c.loop-i-test.true in omega arith)))
          (λ ne. get_or-set_other was i k false false ne ∙ inv.5 k (omega arith)))),
    )
