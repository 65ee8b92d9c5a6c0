use Rattle.std.proofs.Common.{◌≡◌, ◌<◌, ℕ, List, [], ◌∷◌, ◌++◌, ap, ◌∙◌, sym, subst, append_assoc}
use Rattle.std.proofs.lemmas.List.Elements.{All-push}
use mathlib.Core.List.{map-append}
use Rattle.turn_store.specs.declared.view.Item.{Item}
use Rattle.turn_store.specs.declared.view.Item.TheVariants.{Failed}
use Rattle.turn_store.specs.declared.store.Pass.{Pass}
use Rattle.turn_store.specs.declared.take.Take.{Take}
use Rattle.turn_store.specs.declared.take.Take.TheVariants.{Busy}
use Rattle.turn_store.specs.Passes.{items_of, held_by}
use Rattle.turn_store.specs.Told.{Answers, items_after, held_after}
use Rattle.turn_store.specs.Takes.{Takes}
use Rattle.turn_store.specs.Waits.{SawBusy, IsBusy, failures}
use Rattle.turn_store.specs.Words.{taken_of, generation_of}
use Rattle.turn_store.proofs.lane.Lane.take.Goals as goal

one_more : {V : Type 0} (k w : ℕ) (p q s : Pass V) (r : Take V) → SawBusy k p q → r ≡ Busy w → Takes k q s r → SawBusy k p s
one_more {V} k w p q s r so_far is did = let busy = subst (Answers k did.0.0) is did.0.1 in (
  so_far.0 ++ w ∷ [],
  All-push IsBusy so_far.0 w so_far.1 (ap (λ (z : ℕ). taken_of z) busy.0 ∙ busy.1, subst (λ (z : ℕ). generation_of z < 4294967295) (sym busy.0) busy.2),
  did.1 ∙ (ap (λ (z : Take V). items_after k z (items_of q)) is ∙ (ap (λ (l : List (Item V)). l ++ Failed k w ∷ []) so_far.2 ∙ longer)),
  did.2 ∙ (ap (λ (z : Take V). held_after z (held_by q)) is ∙ so_far.3),
)
  where
    longer : (items_of p ++ failures k so_far.0) ++ Failed k w ∷ [] ≡ items_of p ++ failures k (so_far.0 ++ w ∷ [])
    longer = append_assoc (items_of p) (failures k so_far.0) (Failed k w ∷ []) ∙ ap (λ l. items_of p ++ l) (sym (map-append (λ (w : ℕ). let x : Item V = Failed k w in x) so_far.0 (w ∷ [])))

pub loop-preserved : goal.loop-preserved
loop-preserved g c = let inv = c.loop.invariant in let did = c.try_take.ensures in (
  inv.0,
  did.pass,
  one_more c.args.slot c.in-Busy.field-0 c.args.self.now.pass c.loop.self.pass c.try_take.new.pass c.try_take.result inv.2 c.in-Busy.is did.take,
)
