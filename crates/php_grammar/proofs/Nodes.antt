-- The depth said of nodes: `InNodes d m ..` where each node that begins among the first m tokens has at most d levels above it, itself included.
use Rattle.std.proofs.Common.{◌≡◌, ℕ, suc, ◌+◌, ◌-◌, ◌<◌, ◌≤◌, Bool, true, false, List, [], ◌∷◌, length, Option, Some, None, ◌⊎◌, inl, inr, refl, ap, sym, ◌∙◌, subst, arith}
use Rattle.std.proofs.Math.Nat.{eq-zero-or-pos}
use Rattle.php_grammar.specs.declared.token.Kind.{Kind}
use Rattle.php_grammar.specs.Parts.{Part, Symbol, tok, sub, Rule}
use Rattle.php_grammar.specs.Grammar.{steps, operand, goes_on, choose, production, weight}
use Rattle.php_grammar.specs.Values.{Value, leaf, Lexeme}
use Rattle.php_grammar.specs.Act.{act, link}
use Rattle.php_grammar.specs.Reads.{peek, Goal, part_of, seq, Reads}
use Rattle.php_grammar.specs.Reads as reads
use Rattle.php_grammar.proofs.Table.{is_solid, has_token, solid}
use Rattle.php_grammar.proofs.Facts.{solid_rule, solid_level, or_true, either}
use Rattle.php_grammar.proofs.Weights.{weighed}
use Rattle.php_grammar.proofs.Laws.{shrinks, weaken, loose}
use Rattle.php_grammar.proofs.Closing.{solid_reads}

pub data InNodes : ℕ → ℕ → Goal → List Value → List Lexeme → List Lexeme → Type 0 where
  done : {d m : ℕ} {ts : List Lexeme} → InNodes d m (seq []) [] ts ts
  token : {d m : ℕ} {t : Lexeme} {kind : Kind} {p : List Symbol} {vs : List Value} {ts rest : List Lexeme}
      → t.kind ≡ kind → InNodes d (m - 1) (seq p) vs ts rest → InNodes d m (seq (tok kind ∷ p)) (leaf t ∷ vs) (t ∷ ts) rest
  part : {d m : ℕ} {a : Part} {v : Value} {p : List Symbol} {vs : List Value} {ts mid rest : List Lexeme}
      → InNodes d m (part_of a) (v ∷ []) ts mid → InNodes d (m - (length ts - length mid)) (seq p) vs mid rest
      → InNodes d m (seq (sub a ∷ p)) (v ∷ vs) ts rest
  -- the node begins here
  rule : {d m : ℕ} {a : Part} {r : Rule} {vs : List Value} {ts rest : List Lexeme}
      → choose a (peek ts) ≡ Some r → (0 < m → weight r ≤ d) → InNodes (d - weight r) m (seq (production r)) vs ts rest → InNodes d m (part_of a) (act r vs ∷ []) ts rest
  alone : {d m : ℕ} {a b : Part} {v : Value} {ts rest : List Lexeme}
      → operand a ≡ Some b → InNodes d m (part_of b) (v ∷ []) ts rest → goes_on a (peek rest) ≡ false → InNodes d m (part_of a) (v ∷ []) ts rest
  chain : {d m : ℕ} {a b : Part} {v w : Value} {ts mid rest : List Lexeme}
      → operand a ≡ Some b → (0 < m → 1 ≤ d) → InNodes (d - 1) m (part_of b) (v ∷ []) ts mid → goes_on a (peek mid) ≡ true
      → InNodes (d - 1) (m - (length ts - length mid)) (part_of (steps a)) (w ∷ []) mid rest → InNodes d m (part_of a) (link v w ∷ []) ts rest

-- a token that is read within the first m needs a budget
within : {d m : ℕ} {g : Goal} {vs : List Value} {ts rest : List Lexeme} → Reads d m g vs ts rest → length rest < length ts → 0 < m → 0 < d
within reads.done h l = absurd (omega arith)
within (reads.token e ok r) h l = ok l
within (reads.part {ts = ts} {mid = mid} r s) h l =
    let i = shrinks r in
    elim (eq-zero-or-pos (length ts - length mid)) [ inl z ↦ within s (omega arith) (omega arith) | inr z ↦ within r (omega arith) l ]
within (reads.rule c r) h l = let x = within r h l in omega arith
within (reads.alone o r n) h l = within r h l
within (reads.chain o r y s) h l = let x = within r (solid_reads r (solid_level _ _ o).1) l in omega arith

pub to_nodes : {e m : ℕ} {g : Goal} {vs : List Value} {ts rest : List Lexeme} → Reads e m g vs ts rest → (d : ℕ) → e ≤ suc d → InNodes d m g vs ts rest
to_nodes reads.done d l = done
to_nodes (reads.token e ok r) d l = token e (to_nodes r d l)
to_nodes (reads.part r s) d l = part (to_nodes r d l) (to_nodes s d l)
to_nodes (reads.rule {r = x} c r) d l = rule c
    (λ h. elim (weighed x) [ inl w ↦ omega arith | inr w ↦ let k = within r (solid_reads r w.1) h in omega arith ]) (to_nodes r (d - weight x) (omega arith))
to_nodes (reads.alone o r n) d l = alone o (to_nodes r d l) n
to_nodes (reads.chain o r y s) d l = chain o (λ h. let k = within r (solid_reads r (solid_level _ _ o).1) h in omega arith) (to_nodes r (d - 1) (omega arith)) y (to_nodes s (d - 1) (omega arith))

budget : (d e m : ℕ) {g : Goal} {vs : List Value} {ts rest : List Lexeme} → Reads d m g vs ts rest → (0 < m → d ≤ e) → Reads e m g vs ts rest
budget d e m r h = elim (eq-zero-or-pos m) [ inl z ↦ loose r e m z | inr z ↦ weaken r e m (h z) (omega arith) ]

pub from_nodes : {d m : ℕ} {g : Goal} {vs : List Value} {ts rest : List Lexeme} → InNodes d m g vs ts rest → Reads (suc d) m g vs ts rest
from_nodes done = reads.done
from_nodes (token e r) = reads.token e (λ h. omega arith) (from_nodes r)
from_nodes (part r s) = reads.part (from_nodes r) (from_nodes s)
from_nodes (rule {d = d} {m = m} {r = x} c ok r) = reads.rule c (budget (suc (d - weight x)) (suc d - weight x) m (from_nodes r) (λ h. let k = ok h in omega arith))
from_nodes (alone o r n) = reads.alone o (from_nodes r) n
from_nodes (chain {d = d} {m = m} {ts = ts} {mid = mid} o ok r y s) = reads.chain o
    (budget (suc (d - 1)) (suc d - 1) m (from_nodes r) (λ h. let k = ok h in omega arith)) y
    (budget (suc (d - 1)) (suc d - 1) (m - (length ts - length mid)) (from_nodes s) (λ h. let p : 0 < m = omega arith in let k = ok p in omega arith))
