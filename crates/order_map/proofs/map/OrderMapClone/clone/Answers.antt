use Rattle.std.proofs.Common.{ap, subst}
use Rattle.order_map.specs.Arrays.{pairs_of, next_of, place_of, pairs_in, AreCopies}
use Rattle.order_map.proofs.Sound.{sound-copied, pairs-copied}
use Rattle.order_map.proofs.map.OrderMapClone.clone.Goals as goal

pub invariant_of-result : goal.invariant_of-result
unfolding pairs_of next_of place_of
invariant_of-result g c =
    sound-copied g.V.Clone.is_clone c.self.inside.entries.items c.in_ok-entries.entries.items c.self.inside.passed c.self.inside.count c.self.inside.next c.self.inside.index.heads.items c.self.inside.index.links.items
    c.in_ok-index.index.heads.items c.in_ok-index.index.links.items c.in_ok-index.ensures.cases.0 c.in_ok-index.ensures.cases.1 c.in_ok-entries.ensures.cases.0 c.self.invariant

pub returns : goal.returns
unfolding pairs_of next_of place_of
returns g c = record {
  cases = record {
    pairs = subst (λ m. AreCopies g.V.Clone.is_clone (pairs_of m) (pairs_in c.in_ok-entries.entries.items)) c.self.view_is (pairs-copied g.V.Clone.is_clone c.self.inside.entries.items c.in_ok-entries.entries.items c.in_ok-entries.ensures.cases.0);
    next = ap (λ m. next_of m) c.self.view_is;
  };
}
