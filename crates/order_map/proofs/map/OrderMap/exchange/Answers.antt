use Rattle.std.proofs.Common.{rules, sym, ap, ◌∙◌, subst, ◌≡◌, Some, slice_set}
use Rattle.order_map.specs.Arrays.{pairs_of, next_of, place_of, pairs_in, look, put}
use Rattle.order_map.specs.Keys.{next_after}
use Rattle.order_map.proofs.Sound.{Sound, sound-put}
use Rattle.order_map.proofs.Steps.{found_in, now_is, changed, stays}
use Rattle.order_map.proofs.map.OrderMap.exchange.Goals as goal

pub invariant_of-self : goal.invariant_of-self
unfolding pairs_of next_of place_of
invariant_of-self g c =
    let es = c.self.inside.entries.items in
    let f = found_in es c.self.inside.next c.args.self.now c.args.key.now c.args.slot c.self.view_is c.self.invariant.distinct c.requires in
    let e = changed es c.args.slot c.args.key.now f c.index_mut.result.now c.exchange.new.self (Some c.args.value) c.index_mut.ensures.value c.exchange.ensures.after in
    subst (λ x. Sound (slice_set es c.args.slot x) c.self.inside.passed c.self.inside.count c.self.inside.next c.self.inside.index.heads.items c.self.inside.index.links.items) (sym e)
    (sound-put es c.self.inside.passed c.self.inside.count c.self.inside.next c.self.inside.index.heads.items c.self.inside.index.links.items c.args.key.now c.args.slot c.args.value c.self.invariant f)

pub returns-clause-value : goal.returns-clause-value
unfolding pairs_of next_of place_of
returns-clause-value g c =
    let es = c.self.inside.entries.items in
    let f = found_in es c.self.inside.next c.args.self.now c.args.key.now c.args.slot c.self.view_is c.self.invariant.distinct c.requires in
    c.exchange.ensures.value ∙ ap (λ x. x.value) (now_is es c.args.slot c.args.key.now f c.index_mut.result.now c.index_mut.ensures.value) ∙ sym f.look_is ∙ ap (λ m. look c.args.key.now (pairs_of m)) c.self.view_is

pub returns-clause-found : goal.returns-clause-found
unfolding pairs_of next_of place_of
returns-clause-found g c =
    let es = c.self.inside.entries.items in
    let f = found_in es c.self.inside.next c.args.self.now c.args.key.now c.args.slot c.self.view_is c.self.invariant.distinct c.requires in
    let e : c.exchange.result ≡ Some f.value = c.exchange.ensures.value ∙ ap (λ x. x.value) (now_is es c.args.slot c.args.key.now f c.index_mut.result.now c.index_mut.ensures.value) in
    search (rules, e)

pub returns-clause-stays : goal.returns-clause-stays
unfolding pairs_of next_of place_of
returns-clause-stays g c =
    let es = c.self.inside.entries.items in
    let f = found_in es c.self.inside.next c.args.self.now c.args.key.now c.args.slot c.self.view_is c.self.invariant.distinct c.requires in
    subst (λ m. next_after c.args.key.now (next_of m) ≡ next_of m) c.self.view_is (stays es c.self.inside.passed c.self.inside.count c.self.inside.next c.self.inside.index.heads.items c.self.inside.index.links.items c.args.key.now c.args.slot c.self.invariant f)

pub returns-clause-pairs : goal.returns-clause-pairs
unfolding pairs_of next_of place_of
returns-clause-pairs g c =
    let es = c.self.inside.entries.items in
    let f = found_in es c.self.inside.next c.args.self.now c.args.key.now c.args.slot c.self.view_is c.self.invariant.distinct c.requires in
    let e = changed es c.args.slot c.args.key.now f c.index_mut.result.now c.exchange.new.self (Some c.args.value) c.index_mut.ensures.value c.exchange.ensures.after in
    ap (λ x. pairs_in (slice_set es c.args.slot x)) e ∙ sym (f.puts c.args.value) ∙ ap (λ m. put c.args.key.now c.args.value (pairs_of m)) c.self.view_is
