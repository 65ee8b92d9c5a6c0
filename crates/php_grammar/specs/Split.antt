-- A rule's symbols in three: the token that it begins with, what stands between, and the part that it ends with.
use Rattle.std.specs.Prelude.{Bool, true, false, List, [], ◌∷◌, Option, Some, None}
use Rattle.php_grammar.specs.declared.token.Kind.{Kind}
use Rattle.php_grammar.specs.Parts.{Part, Symbol, tok, sub, Seen, var_seen, this_seen, place_seen, place_member_seen}

abbrev pub head_in : List Symbol → Option Kind
head_in (tok k ∷ p) = Some k
head_in _ = None

abbrev pub body_in : List Symbol → List Symbol
body_in (tok k ∷ p) = p
body_in p = p

abbrev pub middle_in : List Symbol → List Symbol
middle_in [] = []
middle_in (sub a ∷ []) = []
middle_in (x ∷ p) = x ∷ middle_in p

abbrev pub tail_in : List Symbol → Option Part
tail_in [] = None
tail_in (sub a ∷ []) = Some a
tail_in (x ∷ p) = tail_in p

-- What was read of an operand is a place, which an index or a member may go on to assign.
abbrev pub place_is_seen : Seen → Bool
place_is_seen var_seen = true
place_is_seen this_seen = true
place_is_seen place_seen = true
place_is_seen place_member_seen = true
place_is_seen _ = false
