-- A run over tokens that agree with a list that is read goes the same way as far as they agree.
use Rattle.std.proofs.Common.{◌≡◌, ℕ, suc, ◌+◌, ◌-◌, ◌<◌, ◌≤◌, max, Bool, true, false, List, [], ◌∷◌, ◌++◌, length, Option, Some, None, ◌⊎◌, inl, inr, refl, ap, sym, ◌∙◌, subst, arith, length-append}
use Rattle.std.proofs.Math.Nat.{eq-zero-or-pos}
use Rattle.php_grammar.specs.declared.token.Kind.{Kind}
use Rattle.php_grammar.specs.declared.token.Fault.{Fault}
use Rattle.php_grammar.specs.declared.token.Fault.TheVariants.{Bad, Deep}
use Rattle.php_grammar.specs.Parts.{Part, Symbol, tok, sub, Rule}
use Rattle.php_grammar.specs.Grammar.{steps, operand, goes_on, choose, production, weight}
use Rattle.php_grammar.specs.Values.{Value, leaf, unit_of, Lexeme}
use Rattle.php_grammar.specs.Act.{act, link}
use Rattle.php_grammar.specs.Reads.{peek, Goal, part_of, seq, Reads}
use Rattle.php_grammar.specs.Reads as reads
use Rattle.php_grammar.specs.Run.{Outcome, got, fault, with_token, with_part, made, only, linked, Run, token, other, ended, deep, part, part_fault, rule, none, alone, first_fault, chain_deep, chain, done}
use Rattle.php_grammar.proofs.Table.{has_token}
use Rattle.php_grammar.proofs.Facts.{level_unruled, solid_level}
use Rattle.php_grammar.proofs.Weights.{weighed}
use Rattle.php_grammar.proofs.Laws.{shrinks, regoal, part_same, rule_same, as_one}
use Rattle.php_grammar.proofs.Sound.{Got, Stops, Holds, sound}

-- the lists have the same first m tokens
abbrev pub Agree : ℕ → List Lexeme → List Lexeme → Type 0
Agree m [] [] = Unit {0}
Agree m [] (t ∷ ts) = m ≡ 0
Agree m (x ∷ xs) [] = m ≡ 0
Agree m (x ∷ xs) (t ∷ ts) = (m ≡ 0) ⊎ ((x ≡ t) × Agree (m - 1) xs ts)

pub agree_fewer : (m n : ℕ) (xs ts : List Lexeme) → Agree m xs ts → n ≤ m → Agree n xs ts
agree_fewer m n [] [] a l = tt
agree_fewer m n [] (t ∷ ts) a l = omega arith
agree_fewer m n (x ∷ xs) [] a l = omega arith
agree_fewer m n (x ∷ xs) (t ∷ ts) (inl z) l = inl (omega arith)
agree_fewer m n (x ∷ xs) (t ∷ ts) (inr e) l = inr (e.0, agree_fewer (m - 1) (n - 1) xs ts e.1 (omega arith))

pub agree_peek : (m : ℕ) (xs ts : List Lexeme) → Agree m xs ts → 0 < m → peek xs ≡ peek ts
agree_peek m [] [] a l = refl
agree_peek m [] (t ∷ ts) a l = absurd (omega arith)
agree_peek m (x ∷ xs) [] a l = absurd (omega arith)
agree_peek m (x ∷ xs) (t ∷ ts) (inl z) l = absurd (omega arith)
agree_peek m (x ∷ xs) (t ∷ ts) (inr e) l = ap (λ y. y.kind) e.0

abbrev pub Past : ℕ → List Lexeme → List Lexeme → Type 0
Past m ts out = m + length out ≤ length ts

pub record Same (e m : ℕ) (vs : List Value) (xs rest : List Lexeme) (ts : List Lexeme) (ws : List Value) (h : ℕ) (out : List Lexeme) : Type 0 where
  pub values : vs ≡ ws
  pub low : h ≤ e
  pub agree : Agree (m - (length xs - length rest)) rest out
  pub count : length xs - length rest ≡ length ts - length out
  pub within : length xs - length rest < m

-- a run to budget d beside a list that is read to budget e
abbrev pub Fit : ℕ → ℕ → ℕ → List Value → List Lexeme → List Lexeme → List Lexeme → Outcome → Type 0
Fit d e m vs xs rest ts (got ws h out) = Past m ts out ⊎ Same e m vs xs rest ts ws h out
Fit d e m vs xs rest ts (fault Bad out) = Past m ts out
Fit d e m vs xs rest ts (fault Deep out) = e ≤ d → Past m ts out

abbrev rest_of : Outcome → List Lexeme
rest_of (got vs h rest) = rest
rest_of (fault f rest) = rest

holds_length : (d : ℕ) (g : Goal) (ts : List Lexeme) (o : Outcome) → Holds d g ts o → length (rest_of o) ≤ length ts
holds_length d g ts (got vs h rest) k = shrinks (k.read 0)
holds_length d g ts (fault f rest) s = let n = length-append s.pre rest in let l = ap length s.eq in omega arith

run_length : {d : ℕ} {g : Goal} {ts : List Lexeme} {o : Outcome} → Run d g ts o → length (rest_of o) ≤ length ts
run_length r = holds_length _ _ _ _ (sound r)

past : (d e m : ℕ) (vs : List Value) (xs rest ts : List Lexeme) (o : Outcome) → Past m ts (rest_of o) → Fit d e m vs xs rest ts o
past d e m vs xs rest ts (got ws h out) p = inl p
past d e m vs xs rest ts (fault Bad out) p = p
past d e m vs xs rest ts (fault Deep out) p = λ l. p

rest_token : (t : Lexeme) (o : Outcome) → rest_of (with_token t o) ≡ rest_of o
rest_token t (got vs h rest) = refl
rest_token t (fault f rest) = refl

rest_part : (v : Value) (h : ℕ) (o : Outcome) → rest_of (with_part v h o) ≡ rest_of o
rest_part v h (got vs i rest) = refl
rest_part v h (fault f rest) = refl

rest_made : (r : Rule) (o : Outcome) → rest_of (made r o) ≡ rest_of o
rest_made r (got vs h rest) = refl
rest_made r (fault f rest) = refl

rest_linked : (v : Value) (h : ℕ) (o : Outcome) → rest_of (linked v h o) ≡ rest_of o
rest_linked v h (got ws i rest) = refl
rest_linked v h (fault f rest) = refl

token_fit : (d e m : ℕ) (vs : List Value) (xs rest ts : List Lexeme) (o : Outcome) (t u : Lexeme) → t ≡ u → 0 < m → 0 < e → length rest ≤ length xs → length (rest_of o) ≤ length ts
    → Fit d e (m - 1) vs xs rest ts o → Fit d e m (leaf t ∷ vs) (t ∷ xs) rest (u ∷ ts) (with_token u o)
token_fit d e m vs xs rest ts (got ws h out) t u s l k i j (inl p) = inl (omega arith)
token_fit d e m vs xs rest ts (got ws h out) t u s l k i j (inr f) = inr (record {
  values = let v = f.values in cc;
  low = let x = f.low in omega arith;
  agree = agree_fewer _ _ rest out f.agree (omega arith);
  count = let x = f.count in omega arith;
  within = let x = f.within in omega arith;
})
token_fit d e m vs xs rest ts (fault Bad out) t u s l k i j p = omega arith
token_fit d e m vs xs rest ts (fault Deep out) t u s l k i j p = λ w. let n = p w in omega arith

part_fit : (d e m h : ℕ) (v w : Value) (vs : List Value) (xs mid rest ts mid' : List Lexeme) (o : Outcome) → length mid ≤ length xs → length rest ≤ length mid → length mid' ≤ length ts → length (rest_of o) ≤ length mid'
    → Same e m (v ∷ []) xs mid ts (w ∷ []) h mid' → Fit d e (m - (length xs - length mid)) vs mid rest mid' o → Fit d e m (v ∷ vs) xs rest ts (with_part w h o)
part_fit d e m h v w vs xs mid rest ts mid' (got ws i out) a b c j s (inl p) = inl (let x = s.count in let y = s.within in omega arith)
part_fit d e m h v w vs xs mid rest ts mid' (got ws i out) a b c j s (inr f) = inr (record {
  values = let x = s.values in let y = f.values in cc;
  low = let x = s.low in let y = f.low in omega arith;
  agree = agree_fewer _ _ rest out f.agree (omega arith);
  count = let x = s.count in let y = f.count in omega arith;
  within = let x = s.within in let y = f.within in omega arith;
})
part_fit d e m h v w vs xs mid rest ts mid' (fault Bad out) a b c j s p = let x = s.count in let y = s.within in omega arith
part_fit d e m h v w vs xs mid rest ts mid' (fault Deep out) a b c j s p = λ n. let o = p n in let x = s.count in let y = s.within in omega arith

rule_fit : (d e m : ℕ) (x y : Rule) (vs : List Value) (xs rest ts : List Lexeme) (o : Outcome) → x ≡ y → Holds (d - weight y) (seq (production y)) ts o
    → Fit (d - weight y) (e - weight x) m vs xs rest ts o → Fit d e m (act x vs ∷ []) xs rest ts (made y o)
rule_fit d e m x y vs xs rest ts (got ws h out) s k (inl p) = inl p
rule_fit d e m x y vs xs rest ts (got ws h out) s k (inr f) = inr (record {
  values = let v = f.values in cc;
  low = elim (weighed y) [ inl w ↦ let l = f.low in let z = ap weight s in omega arith | inr w ↦ let l = f.low in let z = ap weight s in let u = k.some w.1 in omega arith ];
  agree = f.agree;
  count = f.count;
  within = f.within;
})
rule_fit d e m x y vs xs rest ts (fault Bad out) s k p = p
rule_fit d e m x y vs xs rest ts (fault Deep out) s k p = λ w. p (let z = ap weight s in omega arith)

chain_fit : (d e m h : ℕ) (v w u : Value) (xs mid rest ts mid' : List Lexeme) (o : Outcome) → length mid ≤ length xs → length rest ≤ length mid → length mid' ≤ length ts → length (rest_of o) ≤ length mid' → 0 < h
    → Same (e - 1) m (v ∷ []) xs mid ts (w ∷ []) h mid' → Fit (d - 1) (e - 1) (m - (length xs - length mid)) (u ∷ []) mid rest mid' o → Fit d e m (link v u ∷ []) xs rest ts (linked w h o)
chain_fit d e m h v w u xs mid rest ts mid' (got ws i out) a b c j z s (inl p) = inl (let x = s.count in let y = s.within in omega arith)
chain_fit d e m h v w u xs mid rest ts mid' (got ws i out) a b c j z s (inr f) = inr (record {
  values = let p : v ≡ w = (let x = s.values in cc) in let q : u ≡ only ws = ap only f.values in rw (p, q);
  low = let x = s.low in let y = f.low in omega arith;
  agree = agree_fewer _ _ rest out f.agree (omega arith);
  count = let x = s.count in let y = f.count in omega arith;
  within = let x = s.within in let y = f.within in omega arith;
})
chain_fit d e m h v w u xs mid rest ts mid' (fault Bad out) a b c j z s p = let x = s.count in let y = s.within in omega arith
chain_fit d e m h v w u xs mid rest ts mid' (fault Deep out) a b c j z s p = λ n. let o = p (omega arith) in let x = s.count in let y = s.within in omega arith

clash : (e m h : ℕ) (vs ws : List Value) (xs rest ts out : List Lexeme) (a : Part) → Same e m vs xs rest ts ws h out → goes_on a (peek rest) ≡ false → goes_on a (peek out) ≡ true → ⊥
clash e m h vs ws xs rest ts out a s n y = let x = s.within in let p = agree_peek _ rest out s.agree (omega arith) in cc

some_level : {d h : ℕ} {b : Part} {v : Value} {ts mid : List Lexeme} (a : Part) → operand a ≡ Some b → Run d (part_of b) ts (got (v ∷ []) h mid) → 0 < h
some_level a o r = (sound r).some (solid_level a _ o).1

pub exact : {e m d : ℕ} {g : Goal} {vs : List Value} {xs rest ts : List Lexeme} {o : Outcome}
    → Reads e m g vs xs rest → Run d g ts o → Agree m xs ts → Fit d e m vs xs rest ts o
exact {m = m} {xs = xs} (reads.done) done a = elim (eq-zero-or-pos m) [
  | inl z ↦ inl (omega arith)
  | inr z ↦ inr (record { values = refl; low = omega arith; agree = agree_fewer m _ _ _ a (omega arith); count = omega arith; within = omega arith })
]
exact {e = e} {m = m} {d = d} (reads.token {t = t} {vs = vs} {ts = xs} {rest = rest} e1 ok r) (token {t = u} {ts = ts} {o = out} e2 pos s) (inl z) =
    past d e m (leaf t ∷ vs) (t ∷ xs) rest (u ∷ ts) (with_token u out) (rw (rest_token u out) (let n = run_length s in omega arith))
exact {e = e} {m = m} {d = d} (reads.token {t = t} {vs = vs} {ts = xs} {rest = rest} e1 ok r) (token {t = u} {ts = ts} {o = out} e2 pos s) (inr a) = elim (eq-zero-or-pos m) [
  | inl z ↦ past d e m (leaf t ∷ vs) (t ∷ xs) rest (u ∷ ts) (with_token u out) (rw (rest_token u out) (let n = run_length s in omega arith))
  | inr z ↦ token_fit d e m vs xs rest ts out t u a.0 z (ok z) (shrinks r) (run_length s) (exact {m = m - 1} r s a.1)
]
exact (reads.token e1 ok r) (other n) (inl z) = omega arith
exact (reads.token e1 ok r) (other n) (inr a) = absurd (n (ap (λ y. y.kind) (sym a.0) ∙ e1))
exact (reads.token e1 ok r) ended a = omega arith
exact {m = m} (reads.token e1 ok r) (deep e2 z) a = λ l. elim (eq-zero-or-pos m) [ inl n ↦ omega arith | inr n ↦ let x = ok n in absurd (omega arith) ]
exact {e = e} {m = m} {d = d} (reads.part {v = v} {vs = vs} {ts = xs} {mid = mid} {rest = rest} r s) (part {h = h} {v = w} {ts = ts} {mid = mid'} {o = o} r' s') a =
    elim (exact r r' a) [
      | inl p ↦ past d e m (v ∷ vs) xs rest ts (with_part w h o) (rw (rest_part w h o) (let n = run_length s' in omega arith))
      | inr f ↦ part_fit d e m h v w vs xs mid rest ts mid' o (shrinks r) (shrinks s) (run_length r') (run_length s') f (exact {m = m - (length xs - length mid)} s s' f.agree)
    ]
exact (reads.part r s) (part_fault {f = Bad} r') a = exact r r' a
exact (reads.part r s) (part_fault {f = Deep} r') a = exact r r' a
exact {e = e} {m = m} {d = d} {xs = xs} {rest = rest} {ts = ts} (reads.rule {a = b} {r = x} {vs = vs} c r) (rule {r = y} {o = o} c' s) a = elim (eq-zero-or-pos m) [
  | inl z ↦ past d e m (act x vs ∷ []) xs rest ts (made y o) (rw (rest_made y o) (let n = run_length s in omega arith))
  | inr z ↦
      let k = agree_peek m xs ts a z in
      let same : x ≡ y = rule_same b (peek ts) (rw (← k) c) c' in
      rule_fit d e m x y vs xs rest ts o same (sound s) (exact {e = e - weight x} {m = m} (regoal r (ap (λ q. seq (production q)) same)) s a)
]
exact {m = m} {xs = xs} {ts = ts} (reads.rule c r) (none o c') a = elim (eq-zero-or-pos m) [ inl z ↦ omega arith | inr z ↦ absurd (let k = agree_peek m xs ts a z in cc) ]
exact (reads.rule c r) (alone o s n) a = absurd (level_unruled _ _ _ _ o c)
exact (reads.rule c r) (first_fault o s) a = absurd (level_unruled _ _ _ _ o c)
exact (reads.rule c r) (chain_deep o s n q) a = absurd (level_unruled _ _ _ _ o c)
exact (reads.rule c r) (chain o s n q t) a = absurd (level_unruled _ _ _ _ o c)
exact (reads.alone o r n) (rule c s) a = absurd (level_unruled _ _ _ _ o c)
exact (reads.alone o r n) (none o' c) a = absurd cc
exact (reads.alone o r n) (alone o' s n') a = exact (regoal r (ap part_of (part_same _ o o'))) s a
exact (reads.alone o r n) (first_fault {f = Bad} o' s) a = exact (regoal r (ap part_of (part_same _ o o'))) s a
exact (reads.alone o r n) (first_fault {f = Deep} o' s) a = exact (regoal r (ap part_of (part_same _ o o'))) s a
exact (reads.alone {a = b} o r n) (chain_deep o' s y q) a = λ l. elim (exact (regoal r (ap part_of (part_same _ o o'))) s a) [
  | inl p ↦ p
  | inr f ↦ absurd (clash _ _ _ _ _ _ _ _ _ b f n y)
]
exact {e = e} {m = m} {d = d} {xs = xs} {rest = rest} {ts = ts} (reads.alone {a = b} {v = u} o r n) (chain {h = h} {v = v} {o = out} o' s y q t) a = elim (exact (regoal r (ap part_of (part_same _ o o'))) s a) [
  | inl p ↦ past d e m (u ∷ []) xs rest ts (linked v h out) (rw (rest_linked v h out) (let n = run_length t in omega arith))
  | inr f ↦ absurd (clash _ _ _ _ _ _ _ _ _ b f n y)
]
exact (reads.chain o r y u) (rule c s) a = absurd (level_unruled _ _ _ _ o c)
exact (reads.chain o r y u) (none o' c) a = absurd cc
exact {e = e} {m = m} (reads.chain {a = b} o r y u) (alone o' s n) a = elim (exact {e = e - 1} (regoal r (ap part_of (part_same _ o o'))) s a) [
  | inl p ↦ inl p
  | inr f ↦ absurd (let x = f.within in let k = agree_peek _ _ _ f.agree (omega arith) in cc)
]
exact {e = e} (reads.chain o r y u) (first_fault {f = Bad} o' s) a = exact {e = e - 1} (regoal r (ap part_of (part_same _ o o'))) s a
exact {e = e} (reads.chain o r y u) (first_fault {f = Deep} o' s) a = λ l. exact {e = e - 1} (regoal r (ap part_of (part_same _ o o'))) s a (omega arith)
exact {e = e} (reads.chain {a = b} o r y u) (chain_deep o' s y' q) a = λ l. elim (exact {e = e - 1} (regoal r (ap part_of (part_same _ o o'))) s a) [
  | inl p ↦ p
  | inr f ↦ let x = f.low in let z = some_level b o' s in absurd (omega arith)
]
exact {e = e} {m = m} {d = d} {xs = xs} {rest = rest} {ts = ts} (reads.chain {a = b} {v = v} {w = w} {mid = mid} o r y u) (chain {h = h} {v = v'} {mid = mid'} {o = out} o' s y' q t) a =
    elim (exact {e = e - 1} (regoal r (ap part_of (part_same _ o o'))) s a) [
      | inl p ↦ past d e m (link v w ∷ []) xs rest ts (linked v' h out) (rw (rest_linked v' h out) (let n = run_length t in omega arith))
      | inr f ↦ chain_fit d e m h v v' w xs mid rest ts mid' out (shrinks r) (shrinks u) (run_length s) (run_length t) (some_level b o' s) f
          (exact {e = e - 1} {m = m - (length xs - length mid)} u t f.agree)
    ]
