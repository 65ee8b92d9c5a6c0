-- A rule's symbols are its first token, what stands between, and its last part.
use Rattle.std.proofs.Common.{◌≡◌, ℕ, suc, ◌≤◌, ◌<◌, max, Bool, true, false, if◌then◌else◌, List, [], ◌∷◌, ◌++◌, refl, ap, ◌∙◌, append_assoc, arith}
use Rattle.php_grammar.specs.declared.part.Symbol.{Symbol}
use Rattle.php_grammar.specs.declared.part.Symbol.TheVariants.{Tok as tok, Sub as sub}
use Rattle.php_grammar.specs.declared.part.Rule.{Rule}
use Rattle.php_grammar.specs.Grammar.{production}
use Rattle.php_grammar.specs.Split.{head_in, body_in, middle_in, tail_in}
use Rattle.php_grammar.specs.Reach.{takes, reach, lead}
use Rattle.php_grammar.proofs.Bounds.{low_reach}
use Rattle.php_reading.specs.Fronts.{as_token, as_part, opening, between, closing, front}

opened : (p : List Symbol) → as_token (head_in p) ++ body_in p ≡ p
opened [] = refl
opened (tok k ∷ p) = refl
opened (sub a ∷ p) = refl

closed : (p : List Symbol) → middle_in p ++ as_part (tail_in p) ≡ p
closed [] = refl
closed (tok k ∷ []) = refl
closed (tok k ∷ x ∷ p) = ap (λ q. tok k ∷ q) (closed (x ∷ p))
closed (sub a ∷ []) = refl
closed (sub a ∷ x ∷ p) = ap (λ q. sub a ∷ q) (closed (x ∷ p))

pub whole : (r : Rule) → front r ++ as_part (closing r) ≡ production r
whole r =
    append_assoc (opening r) (between r) (as_part (closing r))
    ∙ (ap (λ q. opening r ++ q) (closed (body_in (production r))) ∙ opened (production r))

low_by : (b : Bool) (m n : ℕ) → m < 64 → n ≤ 64 → (if b then suc m else max (suc m) n) ≤ 64
low_by true m n l k = omega arith
low_by false m n l k = omega arith

pub lead_low : (p : List Symbol) → lead p ≤ 64
lead_low [] = omega arith
lead_low (tok k ∷ p) = omega arith
lead_low (sub a ∷ p) = low_by (takes a) (reach a) (lead p) (low_reach a) (lead_low p)
