use Rattle.std.proofs.Common.{rules, arith, sym, ap, ◌∙◌, ◌<◌, Some, is_some, length, slice_get}
use Rattle.order_map.specs.Arrays.{pairs_of, next_of, place_of}
use Rattle.order_map.proofs.Lists.{same_some}
use Rattle.order_map.proofs.Steps.{placed_in, placed_inside, entry_placed}
use Rattle.order_map.proofs.map.OrderMap.pair.Goals as goal

pub index-requires : goal.index-requires
unfolding pairs_of next_of place_of
index-requires g c =
    let es = c.self.inside.entries.items in
    let f = placed_in es c.self.inside.next c.args.self.now c.requires.number c.args.place c.self.view_is c.requires.is in
    let l = placed_inside es c.requires.number c.args.place.at f in
    let q = c.at.ensures in
    let m : c.at.result < length es = omega arith in
    search (rules, m)

pub pair-requires : goal.pair-requires
unfolding pairs_of next_of place_of
pair-requires g c =
    let es = c.self.inside.entries.items in
    let f = placed_in es c.self.inside.next c.args.self.now c.requires.number c.args.place c.self.view_is c.requires.is in
    ap (λ x. is_some x.value) (entry_placed es c.requires.number c.args.place.at f c.at.result c.index.result.now c.at.ensures c.index.ensures)

pub returns : goal.returns
unfolding pairs_of next_of place_of
returns g c = λ i e.
    let es = c.self.inside.entries.items in
    let f = placed_in es c.self.inside.next c.args.self.now i c.args.place c.self.view_is e in
    let x = entry_placed es i c.args.place.at f c.at.result c.index.result.now c.at.ensures c.index.ensures in
    let k = c.pair.ensures.key ∙ ap (λ x. x.key) x in
    let v = same_some _ _ (sym c.pair.ensures.value ∙ ap (λ x. x.value) x) in
    (λ j. Some (k j, v j)) ∙ sym f.pair_is ∙ ap (λ m. slice_get (pairs_of m) i) c.self.view_is
