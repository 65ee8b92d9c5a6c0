-- A rule on a stack that holds as many values as the rule has symbols.
use Rattle.std.proofs.Common.{◌≡◌, List, [], ◌∷◌, ◌++◌, length, reverse, refl, ap, ◌∙◌, arith}
use mathlib.Core.List.{reverse_aux}
use Rattle.std.proofs.lemmas.List.{length-reverse, reverse-reverse}
use Rattle.php_grammar.specs.declared.part.Symbol.{Symbol}
use Rattle.php_grammar.specs.declared.part.Rule.{Rule}
use Rattle.php_grammar.specs.Grammar.{production}
use Rattle.php_grammar.specs.Values.{Value}
use Rattle.php_grammar.specs.Act.{act}
use Rattle.php_pieces.specs.Stacks.{newest, beneath, reduced}

newest_front : (p : List Symbol) (front rest read : List Value) → length front ≡ length p → newest p (front ++ rest) read ≡ reverse_aux front read
newest_front [] [] rest read e = refl
newest_front [] (v ∷ front) rest read e = absurd (omega arith)
newest_front (s ∷ p) [] rest read e = absurd (omega arith)
newest_front (s ∷ p) (v ∷ front) rest read e = newest_front p front rest (v ∷ read) (omega arith)

beneath_front : (p : List Symbol) (front rest : List Value) → length front ≡ length p → beneath p (front ++ rest) ≡ rest
beneath_front [] [] rest e = refl
beneath_front [] (v ∷ front) rest e = absurd (omega arith)
beneath_front (s ∷ p) [] rest e = absurd (omega arith)
beneath_front (s ∷ p) (v ∷ front) rest e = beneath_front p front rest (omega arith)

-- the values on the stack, the newest first
pub reduced_front : (r : Rule) (front rest : List Value) → length front ≡ length (production r) → reduced r (front ++ rest) ≡ act r (reverse front) ∷ rest
reduced_front r front rest e =
    ap (λ (vs : List Value). act r vs ∷ beneath (production r) (front ++ rest)) (newest_front (production r) front rest [] e) ∙ ap (λ (vs : List Value). act r (reverse front) ∷ vs) (beneath_front (production r) front rest e)

-- the values as they were read
pub reduced_whole : (r : Rule) (vs rest : List Value) → length vs ≡ length (production r) → reduced r (reverse vs ++ rest) ≡ act r vs ∷ rest
reduced_whole r vs rest e =
    reduced_front r (reverse vs) rest (length-reverse vs ∙ e) ∙ ap (λ (ws : List Value). act r ws ∷ rest) (reverse-reverse vs)
