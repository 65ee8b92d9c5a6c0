-- The number that digits make.
use Rattle.std.proofs.Common.{◌≡◌, ℕ, ◌+◌, ◌*◌, ◌-◌, ◌≤◌, ◌<◌, zero, suc, List, [], ◌∷◌, length, drop, get_or, refl, arith}
use Rattle.php_values.specs.Convert.{digits_from}

-- more digits make no smaller number
pub digits_from-ge : (n : ℕ) (ds : List ℕ) → n ≤ digits_from n ds
digits_from-ge n [] = omega arith
digits_from-ge n (d ∷ ds) = let h = digits_from-ge (n * 10 + (d - 48)) ds in omega arith

-- one digit taken
pub digits_from-step : (n : ℕ) (ds : List ℕ) (i : ℕ) → i < length ds → digits_from n (drop i ds) ≡ digits_from (n * 10 + (get_or ds i 0 - 48)) (drop (i + 1) ds)
digits_from-step n [] i h = absurd (omega arith)
digits_from-step n (d ∷ ds) zero h = refl
digits_from-step n (d ∷ ds) (suc i) h = let e : suc i + 1 ≡ suc (i + 1) = omega arith in rw e (digits_from-step n ds i (omega arith))
