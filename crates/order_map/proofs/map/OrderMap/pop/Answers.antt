use Rattle.std.proofs.Common.{sym, ◌∙◌}
use Rattle.order_map.specs.Arrays.{pairs_of, next_of, place_of}
use Rattle.order_map.proofs.Steps.{pop-some, pop-none}
use Rattle.order_map.proofs.map.OrderMap.pop.Goals as goal

pub returns-in-Some-value-clause-pairs : goal.returns-in-Some-value-clause-pairs
unfolding pairs_of next_of place_of
returns-in-Some-value-clause-pairs g c = sym c.loop-entry.invariant.0 ∙ pop-some c.loop-entry.self.entries c.pop_slot.new.self.entries c.in-Some.entry c.in-Some-value.value c.in-Some.ensures.entries c.in-Some-value.is

pub loop-entry-preserved-in_default-value : goal.loop-entry-preserved-in_default-value
unfolding pairs_of next_of place_of
loop-entry-preserved-in_default-value g c =
    (pop-none c.loop-entry.self.entries c.pop_slot.new.self.entries c.in-Some.entry c.in-Some.ensures.entries c.in_default-value.is ∙ c.loop-entry.invariant.0, c.in-Some.ensures.next ∙ c.loop-entry.invariant.1)

pub loop-entry-preserved : goal.loop-entry-preserved
unfolding pairs_of next_of place_of
loop-entry-preserved g c =
    (pop-none c.loop-entry.self.entries c.pop_slot.new.self.entries c.in-Some.entry c.in-Some.ensures.entries c.in_default-value.is ∙ c.loop-entry.invariant.0, c.in-Some.ensures.next ∙ c.loop-entry.invariant.1)

pub loop-entry-preserved-in_default-value-2 : goal.loop-entry-preserved-in_default-value-2
unfolding pairs_of next_of place_of
loop-entry-preserved-in_default-value-2 g c =
    (pop-none c.loop-entry.self.entries c.pop_slot.new.self.entries c.in-Some.entry c.in-Some.ensures.entries c.in_default-value.is ∙ c.loop-entry.invariant.0, c.in-Some.ensures.next ∙ c.loop-entry.invariant.1)
