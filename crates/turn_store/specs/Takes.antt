-- What the calls on passes do.
use Rattle.std.specs.Prelude.{◌≡◌, ℕ, ◌<◌, List, [], ◌∷◌, ◌++◌, length}
use Rattle.turn_store.specs.declared.view.Change.{Change}
use Rattle.turn_store.specs.declared.view.Item.TheVariants.{Completed}
use Rattle.turn_store.specs.declared.store.Pass.{Pass}
use Rattle.turn_store.specs.declared.take.Pinned.{Pinned}
use Rattle.turn_store.specs.declared.take.Pinned.TheVariants.{Changed, ChangesSpent}
use Rattle.turn_store.specs.declared.take.Taken as out
use Rattle.turn_store.specs.declared.take.Take as answers
use Rattle.turn_store.specs.Items.{roles_of, change, entry_of, without}
use Rattle.turn_store.specs.Passes.{items_of, held_by}
use Rattle.turn_store.specs.Told.{Answers, items_after, held_after, hold_of}

module _ {V : Type 0} where
  -- the word that the one step found tells which answer comes
  abbrev pub Takes : ℕ → Pass V → Pass V → answers.Take V → Type 0
  Takes k p q r = ((word : ℕ) × Answers k word r) × (items_of q ≡ items_after k r (items_of p)) × (held_by q ≡ held_after r (held_by p))

  -- the entry is added, with the value that was taken and the value that was given
  abbrev pub Gives : out.Taken V → Pass V → Pass V → Type 0
  Gives t p q = (items_of q ≡ items_of p ++ Completed (entry_of (hold_of t) t.value) ∷ []) × (held_by q ≡ without t.slot (held_by p))

-- the change number is the length of the slot's list of roles
abbrev pub Pins : ℕ → ℕ → List Change → List Change → Pinned → Type 0
Pins k role old new (Changed n) = (new ≡ old ++ change k role ∷ []) × (n ≡ length (roles_of k new)) × (length (roles_of k old) < 16777215)
Pins k role old new ChangesSpent = (new ≡ old) × (length (roles_of k old) ≡ 16777215)
