use Rattle.std.proofs.Common.{sym, ap, ◌∙◌}
use Rattle.order_map.specs.Arrays.{pairs_of, next_of, place_of, look}
use Rattle.order_map.proofs.Entries.{missing}
use Rattle.order_map.proofs.Steps.{found_in, now_is}
use Rattle.order_map.proofs.map.OrderMap.get.Goals as goal

pub returns-in-Some : goal.returns-in-Some
unfolding pairs_of next_of place_of
returns-in-Some g c =
    let es = c.self.inside.entries.items in
    let f = found_in es c.self.inside.next c.args.self.now c.args.key.now c.in-Some.slot c.self.view_is c.self.invariant.distinct c.in-Some.ensures in
    c.as_ref.ensures.value ∙ ap (λ x. x.value) (now_is es c.in-Some.slot c.args.key.now f c.index.result.now c.index.ensures) ∙ sym f.look_is ∙ ap (λ m. look c.args.key.now (pairs_of m)) c.self.view_is

pub returns-in-None : goal.returns-in-None
unfolding pairs_of next_of place_of
returns-in-None g c = sym (missing c.args.key.now c.args.self.now.entries c.in-None.ensures).look_is
