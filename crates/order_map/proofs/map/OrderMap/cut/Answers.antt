use Rattle.std.proofs.Common.{arith, sym, ap, ◌∙◌, subst, ◌-◌, None, slice_set}
use Rattle.order_map.specs.Arrays.{pairs_of, next_of, place_of, pairs_in, look, without}
use Rattle.order_map.proofs.Sound.{Sound, sound-cut, found-count}
use Rattle.order_map.proofs.Steps.{found_in, now_is, changed}
use Rattle.order_map.proofs.map.OrderMap.cut.Goals as goal

pub overflow_sub-self : goal.overflow_sub-self
unfolding pairs_of next_of place_of
overflow_sub-self g c =
    let es = c.self.inside.entries.items in
    let f = found_in es c.self.inside.next c.args.self.now c.args.key.now c.args.slot c.self.view_is c.self.invariant.distinct c.requires in
    let l = found-count es c.self.inside.passed c.self.inside.count c.self.inside.next c.self.inside.index.heads.items c.self.inside.index.links.items c.args.key.now c.args.slot c.self.invariant f in
    omega arith

pub invariant_of-self : goal.invariant_of-self
unfolding pairs_of next_of place_of
invariant_of-self g c =
    let es = c.self.inside.entries.items in
    let f = found_in es c.self.inside.next c.args.self.now c.args.key.now c.args.slot c.self.view_is c.self.invariant.distinct c.requires in
    let e = changed es c.args.slot c.args.key.now f c.index_mut.result.now c.exchange-value.new.self None c.index_mut.ensures.value c.exchange-value.ensures.after in
    subst (λ x. Sound (slice_set es c.args.slot x) c.self.inside.passed (c.self.inside.count - 1) c.self.inside.next c.self.inside.index.heads.items c.self.inside.index.links.items) (sym e)
    (sound-cut es c.self.inside.passed c.self.inside.count c.self.inside.next c.self.inside.index.heads.items c.self.inside.index.links.items c.args.key.now c.args.slot c.self.invariant f)

pub returns-clause-value : goal.returns-clause-value
unfolding pairs_of next_of place_of
returns-clause-value g c =
    let es = c.self.inside.entries.items in
    let f = found_in es c.self.inside.next c.args.self.now c.args.key.now c.args.slot c.self.view_is c.self.invariant.distinct c.requires in
    c.exchange-value.ensures.value ∙ ap (λ x. x.value) (now_is es c.args.slot c.args.key.now f c.index_mut.result.now c.index_mut.ensures.value) ∙ sym f.look_is ∙ ap (λ m. look c.args.key.now (pairs_of m)) c.self.view_is

pub returns-clause-pairs : goal.returns-clause-pairs
unfolding pairs_of next_of place_of
returns-clause-pairs g c =
    let es = c.self.inside.entries.items in
    let f = found_in es c.self.inside.next c.args.self.now c.args.key.now c.args.slot c.self.view_is c.self.invariant.distinct c.requires in
    let e = changed es c.args.slot c.args.key.now f c.index_mut.result.now c.exchange-value.new.self None c.index_mut.ensures.value c.exchange-value.ensures.after in
    ap (λ x. pairs_in (slice_set es c.args.slot x)) e ∙ sym f.cuts ∙ ap (λ m. without c.args.key.now (pairs_of m)) c.self.view_is
