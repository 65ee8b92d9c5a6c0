use Rattle.std.proofs.Common.{arith, sym, ap, ◌∙◌, ◌≡◌, pos, to_z, w64}
use Rattle.std.proofs.lemmas.Int.{ints}
use Rattle.order_map.specs.Arrays.{pairs_of, next_of, place_of, pairs_in, look}
use Rattle.order_map.specs.declared.key.Key.TheVariants.{Int}
use Rattle.order_map.proofs.Keys.{look-next}
use Rattle.order_map.proofs.map.OrderMap.append.Goals as goal

pub push-requires : goal.push-requires
unfolding pairs_of next_of place_of
push-requires g c =
    let z : to_z w64 c.self.inside.next ≡ pos c.self.inside.next = omega (arith, ints) in
    ap (λ k. look (Int k) (pairs_of c.args.self.now)) z ∙ sym (ap (λ m. look (Int (pos c.self.inside.next)) (pairs_of m)) c.self.view_is) ∙ look-next c.self.inside.next (pairs_in c.self.inside.entries.items) c.self.invariant.below
