use Rattle.std.proofs.Common.{arith, ap, ◌∙◌, subst, length}
use Rattle.order_map.specs.Arrays.{pairs_of, next_of, place_of, pairs_in}
use Rattle.order_map.specs.Chains.{IsIndex, slots_of}
use Rattle.order_map.proofs.Chains.{link-room}
use Rattle.order_map.proofs.Entries.{pairs-kept}
use Rattle.order_map.proofs.Sound.{sound-kept, kept-long}
use Rattle.order_map.proofs.map.OrderMap.close.Goals as goal

pub relink-requires : goal.relink-requires
unfolding pairs_of next_of place_of
relink-requires g c = record {
  room = λ p.
      let es = c.self.inside.entries.items in
      let r = link-room c.self.inside.index.heads.items c.self.inside.index.links.items es p c.self.invariant.indexed in
      let f = kept-long es in
      let t = ap length (c.as_slice.ensures.value ∙ c.keep_full.ensures) in
      omega arith;
}

pub invariant_of-self : goal.invariant_of-self
unfolding pairs_of next_of place_of
invariant_of-self g c =
    sound-kept c.self.inside.entries.items c.keep_full.new.entries.items c.self.inside.passed c.self.inside.count c.self.inside.next c.self.inside.index.heads.items c.self.inside.index.links.items
    c.relink.new.self.heads.items c.relink.new.self.links.items c.keep_full.ensures c.self.invariant
    (subst (λ l. IsIndex c.relink.new.self.heads.items c.relink.new.self.links.items (slots_of l)) c.as_slice.ensures.value c.relink.ensures.index)

pub returns : goal.returns
unfolding pairs_of next_of place_of
returns g c = record {
  pairs = ap pairs_in c.keep_full.ensures ∙ pairs-kept c.self.inside.entries.items ∙ ap (λ m. pairs_of m) c.self.view_is;
  next = ap (λ m. next_of m) c.self.view_is;
}
