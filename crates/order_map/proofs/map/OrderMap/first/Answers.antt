use Rattle.std.proofs.Common.{ap, ◌∙◌, Some, None}
use Rattle.order_map.specs.Arrays.{pairs_of, next_of, place_of, place_at}
use Rattle.order_map.proofs.Sound.{passed-none}
use Rattle.order_map.proofs.Steps.{first_place}
use Rattle.order_map.proofs.map.OrderMap.first.Goals as goal

pub returns-in-Some : goal.returns-in-Some
unfolding pairs_of next_of place_of
returns-in-Some g c =
    let es = c.self.inside.entries.items in
    ap (λ x. Some (place_at x)) c.new.ensures ∙ first_place es c.as_slice.result.now c.self.inside.passed c.self.inside.next c.args.self.now (Some c.in-Some.slot) c.self.view_is c.as_slice.ensures.value
    (passed-none es c.self.inside.passed c.self.inside.count c.self.inside.next c.self.inside.index.heads.items c.self.inside.index.links.items c.self.invariant) c.in-Some.ensures

pub returns-in-None : goal.returns-in-None
unfolding pairs_of next_of place_of
returns-in-None g c =
    let es = c.self.inside.entries.items in
    first_place es c.as_slice.result.now c.self.inside.passed c.self.inside.next c.args.self.now None c.self.view_is c.as_slice.ensures.value
    (passed-none es c.self.inside.passed c.self.inside.count c.self.inside.next c.self.inside.index.heads.items c.self.inside.index.links.items c.self.invariant) c.in-None.ensures
