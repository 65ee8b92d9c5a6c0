-- What one event adds to what a run comes to.
use Rattle.std.proofs.Common.{◌≡◌, ℕ, zero, suc, ◌-◌, List, ◌++◌, refl, arith}
use Rattle.php_meaning.specs.Events.{End, Budget}
use Rattle.php_meaning.specs.World.{World}
use Rattle.php_meaning.specs.Course.{Course, Stops, Prints, Ticks, Turns, Loop, Then}
use Rattle.php_meaning.specs.Statements.{turn}
use Rattle.php_meaning.specs.Run.{Look, run}
use Rattle.php_meaning.specs.RunResult.{RunResult, result_from}

pub one_tick : (look : Look) (r : RunResult) (left : ℕ) (w : World) (c : Course) → (left ≡ 0 → ⊥) → result_from r (run look left (Ticks w c)) ≡ result_from r (run look (left - 1) c)
one_tick look r zero w c some = absurd (some refl)
one_tick look r (suc left) w c some = let e : suc left - 1 ≡ left = omega arith in rw e refl

pub one_turn : (look : Look) (r : RunResult) (left : ℕ) (l : Loop) (w : World) (k : Then) → (left ≡ 0 → ⊥) → result_from r (run look left (Turns l w k)) ≡ result_from r (run look (left - 1) (turn l w k))
one_turn look r zero l w k some = absurd (some refl)
one_turn look r (suc left) l w k some = let e : suc left - 1 ≡ left = omega arith in rw e refl

pub no_tick : (look : Look) (r : RunResult) (left : ℕ) (w : World) (c : Course) → left ≡ 0 → result_from r (run look left (Ticks w c)) ≡ record r { end = Budget }
no_tick look r left w c none = rw none refl

pub no_turn : (look : Look) (r : RunResult) (left : ℕ) (l : Loop) (w : World) (k : Then) → left ≡ 0 → result_from r (run look left (Turns l w k)) ≡ record r { end = Budget }
no_turn look r left l w k none = rw none refl

pub one_print : (look : Look) (r : RunResult) (left : ℕ) (bytes : List ℕ) (c : Course) → result_from r (run look left (Prints bytes c)) ≡ result_from (record r { output = r.output ++ bytes }) (run look left c)
one_print look r zero bytes c = refl
one_print look r (suc left) bytes c = refl

-- the end of a run
pub stopped : (look : Look) (r : RunResult) (left : ℕ) (end : End) (w : World) → result_from r (run look left (Stops end w)) ≡ record r { end = end }
stopped look r zero end w = refl
stopped look r (suc left) end w = refl
