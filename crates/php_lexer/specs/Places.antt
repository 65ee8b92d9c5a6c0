-- The order of a list's places.
use Rattle.std.specs.Prelude.{ℕ, ◌≤◌, List, [], ◌∷◌}
use Rattle.php_lexer.specs.Bytes.{Text}
use Rattle.php_lexer.specs.Marks.{Mark}
use Rattle.php_lexer.specs.Tokens.{IsTokens}

-- the places lie from i to j, and none is below the one before it
abbrev pub Climbs : ℕ → List Mark → ℕ → Type 0
Climbs i [] j = i ≤ j
Climbs i (m ∷ ms) j = (i ≤ m.at) × Climbs m.at ms j

-- the tokens' places never fall
abbrev pub PlacesNeverFall : Type 0
PlacesNeverFall = (t : Text) (ts : List Mark) → IsTokens t ts → (end : ℕ) × Climbs 0 ts end
