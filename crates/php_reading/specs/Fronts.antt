-- A rule's symbols without its last part.
use Rattle.std.specs.Prelude.{List, [], ◌∷◌, ◌++◌, Option, Some, None}
use Rattle.php_grammar.specs.declared.token.Kind.{Kind}
use Rattle.php_grammar.specs.declared.part.Part.{Part}
use Rattle.php_grammar.specs.declared.part.Symbol.{Symbol}
use Rattle.php_grammar.specs.declared.part.Symbol.TheVariants.{Tok as tok, Sub as sub}
use Rattle.php_grammar.specs.declared.part.Rule.{Rule}
use Rattle.php_grammar.specs.Grammar.{production}
use Rattle.php_grammar.specs.Split.{head_in, body_in, middle_in, tail_in}

abbrev pub as_token : Option Kind → List Symbol
as_token None = []
as_token (Some kind) = tok kind ∷ []

abbrev pub as_part : Option Part → List Symbol
as_part None = []
as_part (Some a) = sub a ∷ []

-- the first token
abbrev pub opening : Rule → List Symbol
opening r = as_token (head_in (production r))

-- what stands between the first token and the last part
abbrev pub between : Rule → List Symbol
between r = middle_in (body_in (production r))

-- the last part
abbrev pub closing : Rule → Option Part
closing r = tail_in (body_in (production r))

abbrev pub front : Rule → List Symbol
front r = opening r ++ between r
