-- What one step adds to a run that is under way.
use Rattle.std.proofs.Common.{◌≡◌, ℕ, zero, suc, ◌-◌, List, Bool, true, false, refl, arith}
use Rattle.php_frames.specs.Course.{Course, Ticks, Stops}
use Rattle.php_frames.specs.Events.{Done}
use Rattle.php_frames.specs.Progress.{resumed_at, closed_at}

-- a tick is taken from those that are left
pub one_tick_less : (path output : List ℕ) (left : ℕ) (spent : Bool) (rest : Course) → (left ≡ 0 → ⊥) → resumed_at path output left spent (Ticks rest) ≡ resumed_at path output (left - 1) spent rest
one_tick_less path output zero spent rest some = absurd (some refl)
one_tick_less path output (suc left) true rest some = refl
one_tick_less path output (suc left) false rest some = let e : suc left - 1 ≡ left = omega arith in rw e refl

-- a run of which nothing follows is closed
pub nothing_follows : (path output : List ℕ) (left : ℕ) (spent : Bool) → resumed_at path output left spent (Stops Done) ≡ closed_at path output spent
nothing_follows path output zero true = refl
nothing_follows path output zero false = refl
nothing_follows path output (suc left) true = refl
nothing_follows path output (suc left) false = refl
