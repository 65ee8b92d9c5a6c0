-- What is left of a `break` or a `continue` outside one loop or `switch`.
use Rattle.std.specs.Prelude.{ℕ, zero, suc}
use Rattle.php_meaning.specs.Course.{Signal, Normal, Breaks, Continues}

abbrev pub after_break : ℕ → Signal
after_break zero = Normal
after_break (suc n) = Breaks n

-- where the innermost is a `switch`
abbrev pub after_continue : ℕ → Signal
after_continue zero = Normal
after_continue (suc n) = Continues n
