-- Symbols are read one after the other.
use Rattle.std.proofs.Common.{◌≡◌, ℕ, suc, ◌+◌, ◌-◌, ◌*◌, ◌<◌, ◌≤◌, max, min, Bool, true, false, if◌then◌else◌, List, [], ◌∷◌, ◌++◌, length, reverse, refl, ap, sym, subst, append_assoc, length-append, arith}
use Rattle.std.proofs.lemmas.List.{reverse-append}
use Rattle.php_grammar.specs.declared.token.Kind.{Kind}
use Rattle.php_grammar.specs.declared.token.Fault.TheVariants.{Bad, Deep}
use Rattle.php_grammar.specs.declared.part.Part.{Part}
use Rattle.php_grammar.specs.declared.part.Symbol.{Symbol}
use Rattle.php_grammar.specs.declared.part.Symbol.TheVariants.{Tok as tok, Sub as sub}
use Rattle.php_grammar.specs.declared.lexeme.Lexeme.{Lexeme}
use Rattle.php_grammar.specs.Values.{Value, leaf}
use Rattle.php_grammar.specs.Reads.{peek, part_of, seq}
use Rattle.php_grammar.specs.Run.{Outcome, got, fault, with_token, with_part, Run, token, other, ended, deep, part, part_fault}
use Rattle.php_grammar.specs.Reach.{takes, reach, lead}
use Rattle.php_grammar.proofs.Laws.{shrinks}
use Rattle.php_grammar.proofs.Reach.{takes_solid}
use Rattle.php_grammar.proofs.Closing.{solid_reads}
use Rattle.php_grammar.proofs.Sound.{sound}
use Rattle.php_reading.specs.declared.stop.Stop.{Stop}
use Rattle.php_reading.specs.declared.stop.Stop.TheVariants.{At, Memory}
use Rattle.php_reading.specs.Reading.{beside, is_empty, HasTaken, HasRead, HasStopped, HasReadAll, HasStoppedIn}
use Rattle.php_reading.proofs.Split.{lead_low}

-- ---- a token

beside_token : (t : Lexeme) (o : Outcome) → with_token t o ≡ beside (leaf t ∷ []) 1 o
beside_token t (got vs h rest) = refl
beside_token t (fault f rest) = refl

token_nearer : (n m k : ℕ) → m ≤ 64 → 512 * n + 8 * m ≤ 512 * (suc n) + 8 * k
token_nearer n m k l = omega arith

pub taken : (d : ℕ) (kind : Kind) (t : Lexeme) (ts : List Lexeme) (vs : List Value) → t.kind ≡ kind → 0 < d → HasReadAll d (tok kind ∷ []) (t ∷ ts) vs (d - 1) ts (leaf t ∷ vs)
taken d kind t ts vs e l = record {
  height = 1;
  values = leaf t ∷ [];
  run = λ q o r. subst (λ x. Run d (seq (tok kind ∷ q)) (t ∷ ts) x) (beside_token t o) (token e l r);
  on_top = refl;
  counts = refl;
  lowest = refl;
  nearer = λ q. token_nearer (length ts) (lead q) 0 (lead_low q);
  fewer = omega arith;
}

pub no_token : (d : ℕ) (kind : Kind) → HasStoppedIn d (tok kind ∷ []) [] (At Bad) []
no_token d kind = record { why = λ q. ended }

pub other_token : (d : ℕ) (kind : Kind) (t : Lexeme) (ts : List Lexeme) → (t.kind ≡ kind → ⊥) → HasStoppedIn d (tok kind ∷ []) (t ∷ ts) (At Bad) (t ∷ ts)
other_token d kind t ts n = record { why = λ q. other n }

pub deep_token : (d : ℕ) (kind : Kind) (t : Lexeme) (ts : List Lexeme) → t.kind ≡ kind → d ≡ 0 → HasStoppedIn d (tok kind ∷ []) (t ∷ ts) (At Deep) (t ∷ ts)
deep_token d kind t ts e z = record { why = λ q. deep e z }

-- ---- a part

beside_part : (v : Value) (h : ℕ) (o : Outcome) → with_part v h o ≡ beside (v ∷ []) h o
beside_part v h (got vs i rest) = refl
beside_part v h (fault f rest) = refl

pub run_fewer : {d h : ℕ} {a : Part} {vs : List Value} {ts rest : List Lexeme} → Run d (part_of a) ts (got vs h rest) → length rest ≤ length ts
run_fewer r = let s = sound r in shrinks (s.read 0)

pub run_takes : {d h : ℕ} {a : Part} {vs : List Value} {ts rest : List Lexeme} → Run d (part_of a) ts (got vs h rest) → takes a ≡ true → length rest < length ts
run_takes {a = a} r t = let s = sound r in solid_reads (s.read 0) (takes_solid a t)

pub nearer_by : (b : Bool) (n m k l : ℕ) → (b ≡ true → n < m) → n ≤ m → l ≤ 64 → 512 * n + 8 * l ≤ 512 * m + 8 * (if b then suc k else max (suc k) l)
nearer_by true n m k l t h w = let x = t refl in omega arith
nearer_by false n m k l t h w = omega arith

pub part_read : {d low : ℕ} {a : Part} {ts ts' : List Lexeme} {vs vs' : List Value} → HasRead d a ts vs low ts' vs' → HasReadAll d (sub a ∷ []) ts vs low ts' vs'
part_read {d = d} {a = a} {ts = ts} {ts' = ts'} x = record {
  height = x.height;
  values = x.value ∷ [];
  run = λ q o r. subst (λ y. Run d (seq (sub a ∷ q)) ts y) (beside_part x.value x.height o) (part x.run r);
  on_top = x.on_top;
  counts = refl;
  lowest = x.lowest;
  nearer = λ q. nearer_by (takes a) (length ts') (length ts) (reach a) (lead q) (run_takes x.run) (run_fewer x.run) (lead_low q);
  fewer = run_fewer x.run;
}

pub part_stopped : {d : ℕ} {a : Part} {ts ts' : List Lexeme} (s : Stop) → HasStopped d a ts s ts' → HasStoppedIn d (sub a ∷ []) ts s ts'
part_stopped (At f) x = record { why = λ q. part_fault x.why }
part_stopped Memory x = record { why = tt }

-- ---- one after the other

beside_nothing : (o : Outcome) → o ≡ beside [] 0 o
beside_nothing (got vs h rest) = ap (λ x. got vs x rest) (omega arith)
beside_nothing (fault f rest) = refl

pub none_read : (d : ℕ) (ts : List Lexeme) (vs : List Value) → HasReadAll d [] ts vs d ts vs
none_read d ts vs = record {
  height = 0;
  values = [];
  run = λ q o r. subst (λ x. Run d (seq q) ts x) (beside_nothing o) r;
  on_top = refl;
  counts = refl;
  lowest = omega arith;
  nearer = λ q. omega arith;
  fewer = omega arith;
}

beside_both : (vs ws : List Value) (h i : ℕ) (o : Outcome) → beside vs h (beside ws i o) ≡ beside (vs ++ ws) (max h i) o
beside_both vs ws h i (got us j rest) = let e : max h (max i j) ≡ max (max h i) j = omega arith in rw (e, append_assoc vs ws us) refl
beside_both vs ws h i (fault f rest) = refl

both_on : (vs ws us : List Value) → reverse ws ++ (reverse vs ++ us) ≡ reverse (vs ++ ws) ++ us
both_on vs ws us = rw (reverse-append vs ws, append_assoc (reverse ws) (reverse vs) us) refl

pub both_read : {d low low' : ℕ} {p q : List Symbol} {ts mid rest : List Lexeme} {vs vs' vs'' : List Value}
    → HasReadAll d p ts vs low mid vs' → HasReadAll d q mid vs' low' rest vs'' → HasReadAll d (p ++ q) ts vs (min low low') rest vs''
both_read {d = d} {p = p} {q = q} {ts = ts} {mid = mid} {rest = rest} {vs = vs} x y = record {
  height = max x.height y.height;
  values = x.values ++ y.values;
  run = λ z o r.
      let u = x.run (q ++ z) (beside y.values y.height o) (y.run z o r) in
      subst (λ o. Run d (seq ((p ++ q) ++ z)) ts o) (beside_both x.values y.values x.height y.height o)
      (subst (λ s. Run d (seq s) ts (beside x.values x.height (beside y.values y.height o))) (sym (append_assoc p q z)) u);
  on_top = rw (y.on_top, x.on_top) (both_on x.values y.values vs);
  counts = rw (length-append x.values y.values, length-append p q) (let a = x.counts in let b = y.counts in omega arith);
  lowest = let a = x.lowest in let b = y.lowest in omega arith;
  nearer = λ z. let a = x.nearer (q ++ z) in let b = y.nearer z in rw (append_assoc p q z) (omega arith);
  fewer = let a = x.fewer in let b = y.fewer in omega arith;
}

pub then_stopped : {d low : ℕ} {p q : List Symbol} {ts mid rest : List Lexeme} {vs vs' : List Value} (s : Stop)
    → HasReadAll d p ts vs low mid vs' → HasStoppedIn d q mid s rest → HasStoppedIn d (p ++ q) ts s rest
then_stopped {d = d} {p = p} {q = q} {ts = ts} {rest = rest} (At f) x y =
    record { why = λ z. subst (λ s. Run d (seq s) ts (fault f rest)) (sym (append_assoc p q z)) (x.run (q ++ z) (fault f rest) (y.why z)) }
then_stopped Memory x y = record { why = tt }

pub stopped_then : {d : ℕ} {p : List Symbol} (q : List Symbol) {ts rest : List Lexeme} (s : Stop) → HasStoppedIn d p ts s rest → HasStoppedIn d (p ++ q) ts s rest
stopped_then {d = d} {p = p} q {ts = ts} {rest = rest} (At f) x = record { why = λ z. subst (λ s. Run d (seq s) ts (fault f rest)) (sym (append_assoc p q z)) (x.why (q ++ z)) }
stopped_then q Memory x = record { why = tt }

-- ---- a token that a reader looks at

pub at_end : (d : ℕ) (kind : Kind) (ts : List Lexeme) → is_empty ts ≡ true → HasStoppedIn d (tok kind ∷ []) ts (At Bad) ts
at_end d kind [] e = no_token d kind
at_end d kind (t ∷ ts) e = absurd cc

pub at_other : (d : ℕ) (kind : Kind) (ts : List Lexeme) → is_empty ts ≡ false → (peek ts ≡ kind → ⊥) → HasStoppedIn d (tok kind ∷ []) ts (At Bad) ts
at_other d kind [] e n = absurd cc
at_other d kind (t ∷ ts) e n = other_token d kind t ts n

pub at_deep : (d : ℕ) (kind : Kind) (ts : List Lexeme) → is_empty ts ≡ false → peek ts ≡ kind → d ≡ 0 → HasStoppedIn d (tok kind ∷ []) ts (At Deep) ts
at_deep d kind [] e n z = absurd cc
at_deep d kind (t ∷ ts) e n z = deep_token d kind t ts n z

pub at_token : (d : ℕ) (kind : Kind) (ts : List Lexeme) (vs : List Value) {ts' : List Lexeme} {vs' : List Value} → is_empty ts ≡ false → peek ts ≡ kind → 0 < d → HasTaken ts vs ts' vs'
    → HasReadAll d (tok kind ∷ []) ts vs (d - 1) ts' vs'
at_token d kind [] vs e n z h = absurd cc
at_token d kind (t ∷ ts) vs {ts' = ts'} {vs' = vs'} e n z h = rw (h.0, h.1) (taken d kind t ts vs n z)
