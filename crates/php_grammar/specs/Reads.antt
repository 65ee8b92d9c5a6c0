-- The grammar as a relation.
use Rattle.std.specs.Prelude.{◌≡◌, ℕ, ◌-◌, ◌<◌, Bool, true, false, List, [], ◌∷◌, length, Option, Some, None}
use Rattle.php_grammar.specs.declared.token.Kind.{Kind}
use Rattle.php_grammar.specs.declared.token.Kind.TheVariants.{End}
use Rattle.php_grammar.specs.Parts.{Part, Symbol, tok, sub, Rule}
use Rattle.php_grammar.specs.Grammar.{steps, operand, goes_on, choose, production, weight}
use Rattle.php_grammar.specs.Values.{Value, leaf, Lexeme}
use Rattle.php_grammar.specs.Act.{act, link}

-- the kind of the next token
abbrev pub peek : List Lexeme → Kind
peek [] = End
peek (t ∷ ts) = t.kind

pub data Goal : Type 0 where
  part_of : Part → Goal
  seq : List Symbol → Goal

-- `Reads d m goal values tokens rest`: a front of the tokens, up to the rest, is read as the values, and each of the
-- first m tokens stands in fewer than d nodes.
pub data Reads : ℕ → ℕ → Goal → List Value → List Lexeme → List Lexeme → Type 0 where
  done : {d m : ℕ} {ts : List Lexeme} → Reads d m (seq []) [] ts ts
  token : {d m : ℕ} {t : Lexeme} {kind : Kind} {p : List Symbol} {vs : List Value} {ts rest : List Lexeme}
      → t.kind ≡ kind → (0 < m → 0 < d) → Reads d (m - 1) (seq p) vs ts rest → Reads d m (seq (tok kind ∷ p)) (leaf t ∷ vs) (t ∷ ts) rest
  part : {d m : ℕ} {a : Part} {v : Value} {p : List Symbol} {vs : List Value} {ts mid rest : List Lexeme}
      → Reads d m (part_of a) (v ∷ []) ts mid → Reads d (m - (length ts - length mid)) (seq p) vs mid rest
      → Reads d m (seq (sub a ∷ p)) (v ∷ vs) ts rest
  rule : {d m : ℕ} {a : Part} {r : Rule} {vs : List Value} {ts rest : List Lexeme}
      → choose a (peek ts) ≡ Some r → Reads (d - weight r) m (seq (production r)) vs ts rest → Reads d m (part_of a) (act r vs ∷ []) ts rest
  -- a level without an operator is no node
  alone : {d m : ℕ} {a b : Part} {v : Value} {ts rest : List Lexeme}
      → operand a ≡ Some b → Reads d m (part_of b) (v ∷ []) ts rest → goes_on a (peek rest) ≡ false → Reads d m (part_of a) (v ∷ []) ts rest
  -- a chain is one node
  chain : {d m : ℕ} {a b : Part} {v w : Value} {ts mid rest : List Lexeme}
      → operand a ≡ Some b → Reads (d - 1) m (part_of b) (v ∷ []) ts mid → goes_on a (peek mid) ≡ true
      → Reads (d - 1) (m - (length ts - length mid)) (part_of (steps a)) (w ∷ []) mid rest → Reads d m (part_of a) (link v w ∷ []) ts rest
