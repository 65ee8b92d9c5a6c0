use Rattle.std.proofs.Common.{sym, ap, ◌∙◌, ◌∷◌, []}
use Rattle.std.proofs.lemmas.List.{map-append}
use Rattle.order_map.specs.Arrays.{pairs_in}
use Rattle.order_map.specs.Taken.{values_of}
use Rattle.order_map.proofs.Steps.{pop-some, pop-none}
use Rattle.order_map.proofs.values.pop_value.Goals as goal

pub returns-in-Some-value-clause-value : goal.returns-in-Some-value-clause-value
returns-in-Some-value-clause-value g c =
    ap (λ ps. values_of ps) (sym c.loop-entry.invariant ∙ pop-some c.loop-entry.rest.items c.pop.new.self.items c.in-Some.entry c.in-Some-value.value c.in-Some.ensures.items c.in-Some-value.is)
    ∙ map-append (λ p. p.1) (pairs_in c.pop.new.self.items) ((c.in-Some.entry.key, c.in-Some-value.value) ∷ [])

pub loop-entry-preserved : goal.loop-entry-preserved
loop-entry-preserved g c = pop-none c.loop-entry.rest.items c.pop.new.self.items c.in-Some.entry c.in-Some.ensures.items c.in-None.is ∙ c.loop-entry.invariant
