-- A list of tokens is read in one way.
use Rattle.std.proofs.Common.{◌≡◌, ℕ, ◌+◌, ◌-◌, ◌<◌, ◌≤◌, max, Bool, true, false, List, [], ◌∷◌, ◌++◌, length, Option, Some, None, refl, ap, sym, ◌∙◌, subst, arith}
use Rattle.php_grammar.specs.declared.token.Kind.{Kind}
use Rattle.php_grammar.specs.Parts.{Part, Symbol, tok, sub, Rule}
use Rattle.php_grammar.specs.Grammar.{steps, operand, goes_on, choose, production, weight}
use Rattle.php_grammar.specs.Values.{Value, leaf, Lexeme}
use Rattle.php_grammar.specs.Act.{act, link}
use Rattle.php_grammar.specs.Reads.{peek, Goal, part_of, seq, Reads, done, token, part, rule, alone, chain}
use Rattle.php_grammar.proofs.Facts.{level_unruled}

pub shrinks : {d m : ℕ} {g : Goal} {vs : List Value} {ts rest : List Lexeme} → Reads d m g vs ts rest → length rest ≤ length ts
shrinks done = omega arith
shrinks (token e ok r) = let i = shrinks r in omega arith
shrinks (part r s) = let i = shrinks r in let j = shrinks s in omega arith
shrinks (rule c r) = shrinks r
shrinks (alone o r n) = shrinks r
shrinks (chain o r y s) = let i = shrinks r in let j = shrinks s in omega arith

pub weaken : {d m : ℕ} {g : Goal} {vs : List Value} {ts rest : List Lexeme} → Reads d m g vs ts rest → (d' m' : ℕ) → d ≤ d' → m' ≤ m → Reads d' m' g vs ts rest
weaken done d' m' p q = done
weaken (token e ok r) d' m' p q = token e (λ h. omega arith) (weaken r d' (m' - 1) p (omega arith))
weaken (part r s) d' m' p q = part (weaken r d' m' p q) (weaken s d' _ p (omega arith))
weaken (rule {r = x} c r) d' m' p q = rule c (weaken r (d' - weight x) m' (omega arith) q)
weaken (alone o r n) d' m' p q = alone o (weaken r d' m' p q) n
weaken (chain o r y s) d' m' p q = chain o (weaken r (d' - 1) m' (omega arith) q) y (weaken s (d' - 1) _ (omega arith) (omega arith))

-- with no token that counts, any budget does
pub loose : {d m : ℕ} {g : Goal} {vs : List Value} {ts rest : List Lexeme} → Reads d m g vs ts rest → (d' m' : ℕ) → m' ≡ 0 → Reads d' m' g vs ts rest
loose done d' m' z = done
loose (token e ok r) d' m' z = token e (λ h. absurd (omega arith)) (loose r d' (m' - 1) (omega arith))
loose (part r s) d' m' z = part (loose r d' m' z) (loose s d' _ (omega arith))
loose (rule {r = x} c r) d' m' z = rule c (loose r (d' - weight x) m' z)
loose (alone o r n) d' m' z = alone o (loose r d' m' z) n
loose (chain o r y s) d' m' z = chain o (loose r (d' - 1) m' z) y (loose s (d' - 1) _ (omega arith))

pub as_one : {d m : ℕ} {a : Part} {vs : List Value} {ts rest : List Lexeme} → Reads d m (part_of a) vs ts rest
    → (v : Value) × (vs ≡ v ∷ []) × Reads d m (part_of a) (v ∷ []) ts rest
as_one (rule c r) = (_, refl, rule c r)
as_one (alone o r n) = (_, refl, alone o r n)
as_one (chain o r y s) = (_, refl, chain o r y s)

pub moved : {d m : ℕ} {g : Goal} {vs : List Value} {ts ts' rest : List Lexeme} → Reads d m g vs ts rest → ts ≡ ts' → Reads d m g vs ts' rest
moved {d = d} {m = m} {g = g} {vs = vs} {rest = rest} r e = subst (λ x. Reads d m g vs x rest) e r

pub regoal : {d m : ℕ} {g g' : Goal} {vs : List Value} {ts rest : List Lexeme} → Reads d m g vs ts rest → g ≡ g' → Reads d m g' vs ts rest
regoal {d = d} {m = m} {vs = vs} {ts = ts} {rest = rest} r e = subst (λ x. Reads d m x vs ts rest) e r

pub part_same : (a : Part) {b c : Part} → operand a ≡ Some b → operand a ≡ Some c → b ≡ c
part_same a p q = cc

pub rule_same : (a : Part) (k : Kind) {b c : Rule} → choose a k ≡ Some b → choose a k ≡ Some c → b ≡ c
rule_same a k p q = cc

pub unique : {d m d' m' : ℕ} {g : Goal} {vs vs' : List Value} {ts rest rest' : List Lexeme}
    → Reads d m g vs ts rest → Reads d' m' g vs' ts rest' → (vs ≡ vs') × (rest ≡ rest')
unique done done = (refl, refl)
unique (token {t = t} e ok r) (token e' ok' r') = let i = unique r r' in (ap (λ x. leaf t ∷ x) i.0, i.1)
unique (part r s) (part r' s') = let i = unique r r' in let j = unique s (moved s' (sym i.1)) in (cc, j.1)
unique (rule {r = x} c r) (rule {r = y} c' r') =
    let e : x ≡ y = rule_same _ _ c c' in let i = unique r (regoal r' (ap (λ z. seq (production z)) (sym e))) in (cc, i.1)
unique (rule c r) (alone o' r' n') = absurd (level_unruled _ _ _ _ o' c)
unique (rule c r) (chain o' r' y' s') = absurd (level_unruled _ _ _ _ o' c)
unique (alone o r n) (rule c' r') = absurd (level_unruled _ _ _ _ o c')
unique (alone o r n) (alone o' r' n') = unique r (regoal r' (ap part_of (part_same _ o' o)))
unique (alone o r n) (chain o' r' y' s') = let i = unique r (regoal r' (ap part_of (part_same _ o' o))) in absurd cc
unique (chain o r y s) (rule c' r') = absurd (level_unruled _ _ _ _ o c')
unique (chain o r y s) (alone o' r' n') = let i = unique r (regoal r' (ap part_of (part_same _ o' o))) in absurd cc
unique (chain o r y s) (chain o' r' y' s') =
    let i = unique r (regoal r' (ap part_of (part_same _ o' o))) in let j = unique s (moved s' (sym i.1)) in (cc, j.1)
