-- The closing value of a slot whose history is whole.
use Rattle.std.proofs.Common.{◌≡◌, ◌⊎◌, ℕ, ◌+◌, ◌-◌, ◌<◌, List, length, get_or, ap, ◌∙◌, inl, inr, arith, Option, Some}
use mathlib.Core.Logic.{dite}
use mathlib.Core.Option.{some}
use native.Mathlib.Decide.{ℕ_discrete}
use Rattle.turn_store.specs.declared.view.Item.{Item}
use Rattle.turn_store.specs.declared.view.Change.{Change}
use Rattle.turn_store.specs.Words.{taken_of, generation_of}
use Rattle.turn_store.specs.Histories.{LegalHistory, IsWhole, ClosesUntouched, ClosesAfter}

-- where a history is whole, and the lock is not taken or is exhausted, the last value is home
pub closing_value : {V : Type 0} (first : ℕ) (values : List V) (items : List (Item V)) (changes : List Change) (words : List ℕ) (left : List (Option V)) (k : ℕ) → LegalHistory first values items changes words left
    → k < length words → (taken_of (get_or words k 0) ≡ 0) ⊎ (generation_of (get_or words k 0) ≡ 4294967295) → IsWhole first items (get_or words k 0) k
    → ClosesUntouched first values (get_or words k 0) k left ⊎ ClosesAfter items (get_or words k 0) k left
closing_value {V} first values items changes words left k legal inside rests whole = let at = legal.lasts k inside rests in let grew = legal.grows k inside in dite (ℕ_discrete (generation_of (get_or words k 0)) first)
    (λ same. inl record { value = at.value; generation = same; is_opening = at.untouched same; is_home = at.is_home })
    (λ more. let e = whole (generation_of (get_or words k 0) - 1) (omega arith) (omega arith) in let n : e.0.number + 1 ≡ generation_of (get_or words k 0) = (let a = e.3 in omega arith) in
    inr record { entry = e.0; is_item = e.1; slot = e.2; is_last = n; is_home = at.is_home ∙ ap (λ (z : V). some (Some z)) (at.last e.0 e.1 e.2 n) })
