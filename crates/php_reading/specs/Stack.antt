-- What becomes of the values read so far, the newest first.
use Rattle.std.specs.Prelude.{List, [], ◌∷◌}
use Rattle.php_grammar.specs.Values.{Value}
use Rattle.php_pieces.specs.Stacks.{reduced}
use Rattle.php_reading.specs.declared.waiting.Waiting.{Waiting}
use Rattle.php_reading.specs.declared.waiting.Waiting.TheVariants.{Tail, Floor}

-- the values when all is made that waits, down to the first floor
abbrev pub values_after : List Waiting → List Value → List Value
values_after [] vs = vs
values_after (Floor ∷ ws) vs = vs
values_after (Tail r ∷ ws) vs = values_after ws (reduced r vs)

-- what waits below the first floor
abbrev pub below : List Waiting → List Waiting
below [] = []
below (Floor ∷ ws) = ws
below (Tail r ∷ ws) = below ws
