-- The length of the output.
use Rattle.std.specs.Prelude.{◌≡◌, ℕ, ◌+◌, ◌≤◌, ◌<◌, Bool, true, false}
use Rattle.php_meaning.specs.World.{World}
use Rattle.php_meaning.specs.Operators.{max_output}

-- bytes were counted, or there was no room for them and nothing changed
abbrev pub Counts : ℕ → World → World → Bool → Type 0
Counts bytes old new true = (old.printed + bytes ≤ max_output) × (new ≡ record old { printed = old.printed + bytes })
Counts bytes old new false = (max_output < old.printed + bytes) × (new ≡ old)
