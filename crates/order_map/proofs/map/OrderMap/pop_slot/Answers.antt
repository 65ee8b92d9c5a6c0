use Rattle.std.proofs.Common.{rules, arith, sym, ap, ◌∙◌, subst, ◌≡◌, ◌<◌, ◌-◌, Some, length, vec_len, get_or}
use Rattle.std.proofs.lemmas.Bool.Decides.{nat_tests}
use Rattle.order_map.specs.Arrays.{pairs_of, next_of, place_of}
use Rattle.order_map.specs.Chains.{IsLinked, slots_of}
use Rattle.order_map.proofs.Lists.{got}
use Rattle.order_map.proofs.Sound.{Sound}
use Rattle.order_map.proofs.Steps.{held-count, sound-popped}
use Rattle.order_map.proofs.map.OrderMap.pop_slot.Goals as goal

pub overflow_sub-self : goal.overflow_sub-self
unfolding pairs_of next_of place_of
overflow_sub-self g c =
    let es = c.self.inside.entries.items in
    let t = ap length c.as_slice.ensures.value in
    let e = c.is_empty.ensures in
    let b = c.if-is_empty.false in
    let p : 0 < length c.self.inside.entries.items = grind (arith, nat_tests) in
    let n : c.len-slot.result ≡ length c.self.inside.entries.items = search rules in
    let k = held-count es c.index.result.now (c.len-slot.result - 1) c.self.inside.passed c.self.inside.count c.self.inside.next c.self.inside.index.heads.items c.self.inside.index.links.items
    (omega arith) (got es (c.len-slot.result - 1) c.index.result.now (omega arith) c.index.ensures) c.self.invariant in
    let h = c.held.ensures in
    omega arith

pub invariant_of-self : goal.invariant_of-self
unfolding pairs_of next_of place_of
invariant_of-self g c =
    let es = c.self.inside.entries.items in
    let t = ap length c.as_slice.ensures.value in
    let e = c.is_empty.ensures in
    let b = c.if-is_empty.false in
    let p : 0 < length c.self.inside.entries.items = grind (arith, nat_tests) in
    let n : c.len-slot.result ≡ length c.self.inside.entries.items = search rules in
    let w : 0 < vec_len c.self.inside.entries = search (rules, p) in
    let m : vec_len c.self.inside.entries ≡ c.len-slot.result = search rules in
    let q : c.pop.result ≡ Some c.index.result.now = c.pop.ensures.value c.index.result.now w ∙ ap (λ k. Some (get_or es (k - 1) c.index.result.now)) m ∙ ap Some (sym c.index.ensures) in
    subst (λ k. Sound c.pop.new.self.items c.self.inside.passed (c.self.inside.count - k) c.self.inside.next c.forget.new.self.heads.items c.forget.new.self.links.items) (sym c.held.ensures)
    (sound-popped es c.pop.new.self.items c.pop.result c.index.result.now (c.len-slot.result - 1) c.self.inside.passed c.self.inside.count c.self.inside.next c.self.inside.index.heads.items c.self.inside.index.links.items
    c.forget.new.self.heads.items c.forget.new.self.links.items c.pop.ensures.items q (omega arith) c.self.invariant
    (subst (λ l. 0 < length c.forget.new.self.heads.items → IsLinked (length c.forget.new.self.heads.items) c.forget.new.self.heads.items c.forget.new.self.links.items (slots_of l) (c.len-slot.result - 1)) c.as_slice-2.ensures.value c.forget.ensures))
