-- Other numbers for the variables of a file.
use Rattle.std.specs.Prelude.{ℕ, slice_get, Option, Some, None}
use Rattle.php_renumber.specs.declared.numbers.Numbers.{Numbers}

abbrev pub number_or : ℕ → Option ℕ → ℕ
number_or past None = past
number_or past (Some n) = n

-- the other number of a variable, by its number
abbrev pub number_in : Numbers → ℕ → ℕ
number_in numbers n = number_or numbers.past (slice_get numbers.others n)
