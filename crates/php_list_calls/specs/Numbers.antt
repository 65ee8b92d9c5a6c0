-- Numbers of arrays: sums, the greatest and the least one, and runs.
use Rattle.std.specs.Prelude.{List, [], ◌∷◌, ℕ, zero, suc, ◌+◌, ℤ, pos, ◌+ℤ◌, ◌-ℤ◌, Bool, false, int_lt, nat_lt, if◌then◌else◌}
use Rattle.std.specs.Int.RustNames.{unsigned_abs}
use Rattle.php_values.specs.Data.{Data, null, truth, int, bytes, array, object}
use Rattle.php_values.specs.Arithmetic.{fits, max_pairs}
use Rattle.php_arguments.specs.declared.fault.CallFault.TheVariants.{Float, Sort, Size}
use Rattle.php_arguments.specs.Answers.{CallAnswer, Ok, Err, go_on}
use Rattle.php_arguments.specs.Arguments.{int_argument}
use Rattle.php_arguments.specs.Results.{array_list}
use Rattle.php_list_calls.specs.declared.numbers.Extreme.{Extreme}
use Rattle.php_list_calls.specs.declared.numbers.Extreme.TheVariants.{Greatest, Least}
use Rattle.php_list_calls.specs.declared.numbers.Direction.{Direction}
use Rattle.php_list_calls.specs.declared.numbers.Direction.TheVariants.{Up, Down}

-- ---- a sum

-- a number of 64 bits
abbrev pub whole : ℤ → CallAnswer ℤ
whole n = if fits n then Ok n else Err Float

-- a number with the numbers of values added one by one
abbrev pub summed : ℤ → List Data → CallAnswer ℤ
summed n [] = Ok n
summed n (d ∷ ds) = go_on (int_argument d) (λ m. go_on (whole (n +ℤ m)) (λ s. summed s ds))

-- ---- the greatest and the least one

-- a value that is a number, not a text of one
abbrev pub number : Data → CallAnswer ℤ
number null = Err Sort
number (truth b) = Err Sort
number (int n) = Ok n
number (bytes t) = Err Sort
number (array a) = Err Sort
number (object n) = Err Sort

abbrev pub better : Extreme → ℤ → ℤ → ℤ
better Greatest m n = if int_lt m n then n else m
better Least m n = if int_lt n m then n else m

-- the greatest or the least of a number and those of values
abbrev pub best : Extreme → ℤ → List Data → CallAnswer ℤ
best way n [] = Ok n
best way n (d ∷ ds) = go_on (number d) (λ m. best way (better way n m) ds)

-- the same of values alone, and false where there is none
abbrev pub best_of : Extreme → List Data → CallAnswer Data
best_of way [] = Ok (truth false)
best_of way (d ∷ ds) = go_on (number d) (λ n. go_on (best way n ds) (λ m. Ok (int m)))

-- ---- runs

-- the number that is so far above or below another one
abbrev pub away : Direction → ℤ → ℕ → ℤ
away Up m k = m +ℤ pos k
away Down m k = m -ℤ pos k

-- so many numbers, the first one so far from another
abbrev pub run : Direction → ℤ → ℕ → ℕ → List Data
run way m k zero = []
run way m k (suc count) = int (away way m k) ∷ run way m (k + 1) count

abbrev pub towards : ℤ → ℤ → Direction
towards m n = if int_lt n m then Down else Up

-- how far two numbers are apart
abbrev pub distance : ℤ → ℤ → ℕ
distance m n = unsigned_abs (m -ℤ n)

-- the numbers from one to another, both included, up or down
abbrev pub range : ℤ → ℤ → CallAnswer Data
range m n = if nat_lt (distance m n) max_pairs then Ok (array (array_list (run (towards m n) m 0 (distance m n + 1)))) else Err Size
