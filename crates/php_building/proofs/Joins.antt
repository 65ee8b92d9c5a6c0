-- Several operators after one operand, the last one on its own.
use Rattle.std.proofs.Common.{◌≡◌, ℕ, List, [], ◌∷◌, ◌++◌, map, refl, ap}
use Rattle.php_grammar.specs.Act.{joined, joined_all}
use Rattle.php_grammar.specs.Values as v
use Rattle.php_tree.specs.Expressions.{Expression}
use Rattle.php_building.specs.Parts.{join_of}
use Rattle.php_building.specs.declared.part.Join.{Join}

pub joined_last : (e : Expression ℕ) (js : List Join) (last : Join) → joined_all e (map join_of (js ++ last ∷ [])) ≡ joined (joined_all e (map join_of js)) (join_of last)
joined_last e [] last = refl
joined_last e (j ∷ js) last = joined_last (joined e (join_of j)) js last

pub joins_last : (js : List Join) (last : Join) → map join_of (js ++ last ∷ []) ≡ map join_of js ++ join_of last ∷ []
joins_last [] last = refl
joins_last (j ∷ js) last = ap (λ more. join_of j ∷ more) (joins_last js last)

pub ruleset joins = (joined_last, joins_last)
