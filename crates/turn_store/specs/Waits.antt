-- A take that tries again while the slot is busy.
use Rattle.std.specs.Prelude.{◌≡◌, ◌<◌, ℕ, List, ◌++◌, map, All}
use Rattle.turn_store.specs.declared.view.Item.{Item}
use Rattle.turn_store.specs.declared.view.Item.TheVariants.{Failed}
use Rattle.turn_store.specs.declared.store.Pass.{Pass}
use Rattle.turn_store.specs.declared.take.Take.{Take}
use Rattle.turn_store.specs.declared.take.Take.TheVariants as once
use Rattle.turn_store.specs.declared.take.TakeWait.{TakeWait}
use Rattle.turn_store.specs.declared.take.TakeWait.TheVariants as at_last
use Rattle.turn_store.specs.Passes.{items_of, held_by}
use Rattle.turn_store.specs.Told.{Answers, items_after, held_after}
use Rattle.turn_store.specs.Words.{taken_of, generation_of}

-- the word of a slot that is held
abbrev pub IsBusy : ℕ → Type 0
IsBusy w = (taken_of w ≡ 1) × (generation_of w < 4294967295)

module _ {V : Type 0} where
  abbrev pub as_take : TakeWait V → Take V
  as_take (at_last.Taken t) = once.Taken t
  as_take (at_last.Spent w) = once.Spent w

  -- a failed acquire for each word
  abbrev pub failures : ℕ → List ℕ → List (Item V)
  failures k ws = map (λ w. Failed k w) ws

  -- the slot was busy for some time, which the pass notes
  abbrev pub SawBusy : ℕ → Pass V → Pass V → Type 0
  SawBusy k p q = (ws : List ℕ) × All IsBusy ws × (items_of q ≡ items_of p ++ failures k ws) × (held_by q ≡ held_by p)

  -- it was busy for some time, and then the answer came
  abbrev pub Waits : ℕ → Pass V → Pass V → TakeWait V → Type 0
  Waits k p q r = (ws : List ℕ) × All IsBusy ws × ((word : ℕ) × Answers k word (as_take r))
      × (items_of q ≡ items_after k (as_take r) (items_of p ++ failures k ws)) × (held_by q ≡ held_after (as_take r) (held_by p))
