-- How a parser goes over the tokens, up to the fault where there is one.
use Rattle.std.specs.Prelude.{◌≡◌, ℕ, suc, ◌+◌, ◌-◌, ◌<◌, ◌≤◌, max, Bool, true, false, List, [], ◌∷◌, length, Option, Some, None}
use Rattle.php_grammar.specs.declared.token.Kind.{Kind}
use Rattle.php_grammar.specs.declared.token.Fault.{Fault}
use Rattle.php_grammar.specs.declared.token.Fault.TheVariants.{Bad, Deep}
use Rattle.php_grammar.specs.Parts.{Part, Symbol, tok, sub, Rule}
use Rattle.php_grammar.specs.Grammar.{steps, operand, goes_on, choose, production, weight}
use Rattle.php_grammar.specs.Values.{Value, leaf, unit_of, Lexeme}
use Rattle.php_grammar.specs.Act.{act, link}
use Rattle.php_grammar.specs.Reads.{peek, Goal, part_of, seq}

pub data Outcome : Type 0 where
  -- the values, how many levels of depth they take, and the rest
  got : List Value → ℕ → List Lexeme → Outcome
  -- the tokens from the fault on
  fault : Fault → List Lexeme → Outcome

abbrev pub with_token : Lexeme → Outcome → Outcome
with_token t (got vs h rest) = got (leaf t ∷ vs) (max 1 h) rest
with_token t (fault f rest) = fault f rest

abbrev pub with_part : Value → ℕ → Outcome → Outcome
with_part v h (got vs i rest) = got (v ∷ vs) (max h i) rest
with_part v h (fault f rest) = fault f rest

abbrev pub made : Rule → Outcome → Outcome
made r (got vs h rest) = got (act r vs ∷ []) (weight r + h) rest
made r (fault f rest) = fault f rest

abbrev pub only : List Value → Value
only (w ∷ []) = w
only _ = unit_of

abbrev pub linked : Value → ℕ → Outcome → Outcome
linked v h (got ws i rest) = got (link v (only ws) ∷ []) (suc (max h i)) rest
linked v h (fault f rest) = fault f rest

pub data Run : ℕ → Goal → List Lexeme → Outcome → Type 0 where
  done : {d : ℕ} {ts : List Lexeme} → Run d (seq []) ts (got [] 0 ts)
  token : {d : ℕ} {t : Lexeme} {kind : Kind} {p : List Symbol} {ts : List Lexeme} {o : Outcome}
      → t.kind ≡ kind → 0 < d → Run d (seq p) ts o → Run d (seq (tok kind ∷ p)) (t ∷ ts) (with_token t o)
  other : {d : ℕ} {t : Lexeme} {kind : Kind} {p : List Symbol} {ts : List Lexeme}
      → (t.kind ≡ kind → ⊥) → Run d (seq (tok kind ∷ p)) (t ∷ ts) (fault Bad (t ∷ ts))
  ended : {d : ℕ} {kind : Kind} {p : List Symbol} → Run d (seq (tok kind ∷ p)) [] (fault Bad [])
  deep : {d : ℕ} {t : Lexeme} {kind : Kind} {p : List Symbol} {ts : List Lexeme}
      → t.kind ≡ kind → d ≡ 0 → Run d (seq (tok kind ∷ p)) (t ∷ ts) (fault Deep (t ∷ ts))
  part : {d h : ℕ} {a : Part} {v : Value} {p : List Symbol} {ts mid : List Lexeme} {o : Outcome}
      → Run d (part_of a) ts (got (v ∷ []) h mid) → Run d (seq p) mid o → Run d (seq (sub a ∷ p)) ts (with_part v h o)
  part_fault : {d : ℕ} {a : Part} {p : List Symbol} {ts rest : List Lexeme} {f : Fault}
      → Run d (part_of a) ts (fault f rest) → Run d (seq (sub a ∷ p)) ts (fault f rest)
  rule : {d : ℕ} {a : Part} {r : Rule} {ts : List Lexeme} {o : Outcome}
      → choose a (peek ts) ≡ Some r → Run (d - weight r) (seq (production r)) ts o → Run d (part_of a) ts (made r o)
  none : {d : ℕ} {a : Part} {ts : List Lexeme}
      → operand a ≡ None → choose a (peek ts) ≡ None → Run d (part_of a) ts (fault Bad ts)
  alone : {d h : ℕ} {a b : Part} {v : Value} {ts rest : List Lexeme}
      → operand a ≡ Some b → Run d (part_of b) ts (got (v ∷ []) h rest) → goes_on a (peek rest) ≡ false
      → Run d (part_of a) ts (got (v ∷ []) h rest)
  first_fault : {d : ℕ} {a b : Part} {ts rest : List Lexeme} {f : Fault}
      → operand a ≡ Some b → Run d (part_of b) ts (fault f rest) → Run d (part_of a) ts (fault f rest)
  -- the operator makes what stands before it too deep
  chain_deep : {d h : ℕ} {a b : Part} {v : Value} {ts mid : List Lexeme}
      → operand a ≡ Some b → Run d (part_of b) ts (got (v ∷ []) h mid) → goes_on a (peek mid) ≡ true → d ≤ h
      → Run d (part_of a) ts (fault Deep mid)
  chain : {d h : ℕ} {a b : Part} {v : Value} {ts mid : List Lexeme} {o : Outcome}
      → operand a ≡ Some b → Run d (part_of b) ts (got (v ∷ []) h mid) → goes_on a (peek mid) ≡ true → h < d
      → Run (d - 1) (part_of (steps a)) mid o → Run d (part_of a) ts (linked v h o)
