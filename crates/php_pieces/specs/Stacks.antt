-- What a rule and an operator make of a stack of values, the newest first.
use Rattle.std.specs.Prelude.{List, [], ◌∷◌}
use Rattle.php_grammar.specs.declared.part.Symbol.{Symbol}
use Rattle.php_grammar.specs.declared.part.Rule.{Rule}
use Rattle.php_grammar.specs.Grammar.{production}
use Rattle.php_grammar.specs.Values.{Value, unit_of}
use Rattle.php_grammar.specs.Act.{act, link}

-- the newest value, nothing of use where there is none
abbrev pub top : List Value → Value
top [] = unit_of
top (v ∷ vs) = v

-- what stands under it
abbrev pub under : List Value → List Value
under [] = []
under (v ∷ vs) = vs

-- as many of the newest as there are symbols, the oldest of them first, in front of those given
abbrev pub newest : List Symbol → List Value → List Value → List Value
newest [] vs read = read
newest (x ∷ p) vs read = newest p (under vs) (top vs ∷ read)

-- what stands under them
abbrev pub beneath : List Symbol → List Value → List Value
beneath [] vs = vs
beneath (x ∷ p) vs = beneath p (under vs)

-- what was read by a rule's symbols becomes one value
abbrev pub reduced : Rule → List Value → List Value
reduced r vs = act r (newest (production r) vs []) ∷ beneath (production r) vs

-- what a level goes on with, and the operand under it, become one value
abbrev pub linked_on : List Value → List Value
linked_on vs = link (top (under vs)) (top vs) ∷ under (under vs)
