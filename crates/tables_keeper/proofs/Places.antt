-- The first place at which a test passes.
use Rattle.std.proofs.Common.{◌≡◌, ℕ, ◌<◌, Bool, true, false, not, Some, None, List, length, get_or, refl, arith, inl, inr}
use Rattle.std.specs.List.{position, position_or_len}
use Rattle.std.proofs.lemmas.Bool.{cases_lt}
use Rattle.std.proofs.lemmas.Bool.Decides.{nat_tests}
use Rattle.std.proofs.lemmas.List.Sums.{prefix_len_is, prefix_len_passes}

pub not_passed : (b : Bool) → not b ≡ true → b ≡ false
not_passed true h = cc
not_passed false h = refl

fails : (b : Bool) → b ≡ false → not b ≡ true
fails true h = cc
fails false h = refl

passes : (b : Bool) → b ≡ true → not b ≡ false
passes true h = refl
passes false h = cc

-- none passes where no place is found
pub position_none : {X : Type 0} (p : X → Bool) (xs : List X) → position p xs ≡ None → (k : ℕ) (d : X) → k < length xs → p (get_or xs k d) ≡ false
position_none p xs none k d within =
    elim (cases_lt (position_or_len p xs) (length xs)) [
      | inl below ↦ absurd (grind (arith, nat_tests))
      | inr all ↦ not_passed _ (prefix_len_passes (λ x. not (p x)) xs k d (omega arith))
    ]

-- the first that passes
pub position_is : {X : Type 0} (p : X → Bool) (xs : List X) (i : ℕ) (d : X) → i < length xs → p (get_or xs i d) ≡ true → ((k : ℕ) → k < i → p (get_or xs k d) ≡ false) → position p xs ≡ Some i
position_is p xs i d within here before =
    let e : position_or_len p xs ≡ i = prefix_len_is (λ x. not (p x)) xs i d (omega arith) (λ k below. fails _ (before k below)) (λ _. passes _ here) in
    rw e (grind (arith, nat_tests))

-- and none where none passes
pub position_missing : {X : Type 0} (p : X → Bool) (xs : List X) (d : X) → ((k : ℕ) → k < length xs → p (get_or xs k d) ≡ false) → position p xs ≡ None
position_missing p xs d none =
    let e : position_or_len p xs ≡ length xs = prefix_len_is (λ x. not (p x)) xs (length xs) d (omega arith) (λ k below. fails _ (none k below)) (λ below. absurd (omega arith)) in
    rw e (grind (arith, nat_tests))
