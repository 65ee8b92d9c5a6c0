use Rattle.std.proofs.Common.{rules, arith, ap, ◌∙◌, ◌<◌, Some, None, length}
use Rattle.order_map.specs.Arrays.{pairs_of, next_of, place_of, place_at}
use Rattle.order_map.proofs.Steps.{placed_in, placed_inside, next_place}
use Rattle.order_map.proofs.map.OrderMap.next_of.Goals as goal

pub overflow_add-at : goal.overflow_add-at
unfolding pairs_of next_of place_of
overflow_add-at g c =
    let es = c.self.inside.entries.items in
    let f = placed_in es c.self.inside.next c.args.self.now c.requires.number c.args.place c.self.view_is c.requires.is in
    let l = placed_inside es c.requires.number c.args.place.at f in
    let q = c.at.ensures in
    let m : c.at.result < length es = omega arith in
    search (rules, m)

pub returns-in-Some : goal.returns-in-Some
unfolding pairs_of next_of place_of
returns-in-Some g c = λ i e.
    ap (λ x. Some (place_at x)) c.new.ensures ∙ next_place c.self.inside.entries.items c.as_slice.result.now c.self.inside.next c.args.self.now i c.args.place c.at.result (Some c.in-Some.slot) c.self.view_is c.as_slice.ensures.value c.at.ensures e c.in-Some.ensures

pub returns-in-None : goal.returns-in-None
unfolding pairs_of next_of place_of
returns-in-None g c = λ i e.
    next_place c.self.inside.entries.items c.as_slice.result.now c.self.inside.next c.args.self.now i c.args.place c.at.result None c.self.view_is c.as_slice.ensures.value c.at.ensures e c.in-None.ensures
