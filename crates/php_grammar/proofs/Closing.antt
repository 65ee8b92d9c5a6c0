-- What is read stays so when other tokens follow, and each part has a shortest list.
use Rattle.std.proofs.Common.{◌≡◌, ℕ, ◌+◌, ◌-◌, ◌<◌, ◌≤◌, max, Bool, true, false, ◌&&◌, ◌||◌, List, [], ◌∷◌, ◌++◌, length, Option, Some, None, ◌⊎◌, inl, inr, refl, ap, sym, ◌∙◌, subst, arith, length-append, append_assoc, zero, suc, pos, nat_lt}
use Rattle.php_grammar.specs.declared.token.Kind.{Kind}
use Rattle.php_grammar.specs.declared.token.Kind.TheVariants.{End}
use Rattle.php_grammar.specs.declared.token.Detail.TheVariants.{Only}
use Rattle.php_grammar.specs.Parts.{Part, Symbol, tok, sub, Rule, none_of}
use Rattle.php_grammar.specs.Grammar.{steps, operand, goes_on, choose, production, weight}
use Rattle.php_grammar.specs.Values.{Value, leaf, Lexeme}
use Rattle.php_grammar.specs.Act.{act, link}
use Rattle.php_grammar.specs.Reads.{peek, Goal, part_of, seq, Reads, done, token, part, rule, alone, chain}
use Rattle.php_grammar.proofs.Closers.{least_kinds, rank}
use Rattle.php_grammar.proofs.Table.{is_solid, has_token, solid, ends, front, first_or, fits, closes, least_list, are_below, nullable, ruled, leveled_on}
use Rattle.php_grammar.proofs.Sorts.{sort_of}
use Rattle.php_grammar.proofs.Facts.{not_cons, first_token, lt-below, rule_fits, level_ends, at_end, empty_production, rule_shape, solid_rule, solid_level, Step, step_of, front_null, and_true, or_true, either, no_level_steps}
use Rattle.php_grammar.proofs.Laws.{shrinks, weaken, moved, regoal, rule_same}

pub solid_reads : {d m : ℕ} {g : Goal} {vs : List Value} {ts rest : List Lexeme} → Reads d m g vs ts rest → solid g ≡ true → length rest < length ts
solid_reads done h = absurd cc
solid_reads (token e ok r) h = let i = shrinks r in omega arith
solid_reads (part {a = a} {p = p} r s) h =
    let i = shrinks r in let j = shrinks s in
    elim (or_true (is_solid a) (has_token p) h) [ inl x ↦ let y = solid_reads r x in omega arith | inr x ↦ let y = solid_reads s x in omega arith ]
solid_reads (rule {a = a} c r) h = solid_reads r (solid_rule a _ _ c h)
solid_reads (alone o r n) h = solid_reads r (solid_level _ _ o).1
solid_reads (chain o r y s) h = let i = solid_reads r (solid_level _ _ o).1 in let j = shrinks s in omega arith

pub steps_read : {d m : ℕ} (a : Part) {vs : List Value} {ts rest : List Lexeme} → Reads d m (part_of (steps a)) vs ts rest → goes_on a (peek ts) ≡ true → length rest < length ts
steps_read l (rule {r = x} {ts = ts} c r) h =
    let s = step_of l (peek ts) h in let e : x ≡ s.by = rule_same (steps l) (peek ts) c s.chosen in
    solid_reads r (rw (e, s.made))
steps_read l (alone o r n) h = absurd (no_level_steps l _ o)
steps_read l (chain o r y s) h = absurd (no_level_steps l _ o)

-- ---- other tokens after what is read

abbrev pub Follows : Goal → List Lexeme → List Lexeme → Type 0
Follows g rest z = (peek rest ≡ peek z) ⊎ (closes g (peek z) ≡ true)

pub record Swapped (d m : ℕ) (g : Goal) (vs : List Value) (ts rest : List Lexeme) : Type 0 where
  pub pre : List Lexeme
  pub eq : ts ≡ pre ++ rest
  pub again : (z : List Lexeme) → Follows g rest z → Reads d m g vs (pre ++ z) z

pub peek_same : (q ts rest z : List Lexeme) → ts ≡ q ++ rest → length rest < length ts → peek ts ≡ peek (q ++ z)
peek_same [] ts rest z e h = absurd (let n = ap length e in omega arith)
peek_same (t ∷ q) ts rest z e h = ap peek e

none_read : (q ts rest : List Lexeme) → ts ≡ q ++ rest → (length rest < length ts) ⊎ ((q ≡ []) × (ts ≡ rest))
none_read [] ts rest e = inr (refl, e)
none_read (t ∷ q) ts rest e = inl (let n = ap length e in let l = length-append q rest in omega arith)

follows_part : {d m : ℕ} {p : List Symbol} {vs : List Value} {mid rest : List Lexeme} (a : Part) (q z : List Lexeme) → Reads d m (seq p) vs mid rest → mid ≡ q ++ rest
    → Follows (seq (sub a ∷ p)) rest z → Follows (part_of a) mid (q ++ z)
follows_part {p = p} {mid = mid} {rest = rest} a q z r e f = elim (none_read q mid rest e) [
  | inl h ↦ inl (peek_same q mid rest z e h)
  | inr h ↦ elim f [
    | inl same ↦ inl (rw (h.1, h.0) same)
    | inr c ↦ elim (either (has_token p)) [
      | inl t ↦ absurd (let n = solid_reads r t in let l = ap length h.1 in omega arith)
      | inr t ↦ inr (rw h.0 (rw (front_null p (peek z) t) at (and_true (ends a (front p (peek z))) (fits p (peek z)) c).0))
    ]
  ]
]

rule_again : {d m : ℕ} {vs : List Value} {ts rest : List Lexeme} (a : Part) (x : Rule) (q z : List Lexeme) → choose a (peek ts) ≡ Some x → Reads d m (seq (production x)) vs ts rest
    → ts ≡ q ++ rest → Follows (part_of a) rest z → choose a (peek (q ++ z)) ≡ Some x
rule_again {ts = ts} {rest = rest} a x q z c r e f = elim (none_read q ts rest e) [
  | inl h ↦ rw (← peek_same q ts rest z e h) c
  | inr h ↦ elim f [
    | inl same ↦ rw (h.0, ← same, ← h.1) c
    | inr w ↦ elim (rule_shape a (peek ts) x c) [
      | inr t ↦ absurd (let n = solid_reads r t in let l = ap length h.1 in omega arith)
      | inl t ↦ elim (either (is_solid a)) [
        | inl u ↦ absurd (let n = solid_reads r (solid_rule a _ x c u) in let l = ap length h.1 in omega arith)
        | inr u ↦ rw (h.0, t) (at_end a (peek z) u w)
      ]
    ]
  ]
]

pub swap : {d m : ℕ} {g : Goal} {vs : List Value} {ts rest : List Lexeme} → Reads d m g vs ts rest → Swapped d m g vs ts rest
swap done = record { pre = []; eq = refl; again = λ z f. done }
swap (token {t = t} e ok r) = let s = swap r in record { pre = t ∷ s.pre; eq = ap (λ x. t ∷ x) s.eq; again = λ z f. token e ok (s.again z f) }
swap (part {d = d} {m = m} {a = a} {p = p} {ts = ts} {mid = mid} {rest = rest} r s) =
    let x = swap r in let y = swap s in record {
      pre = x.pre ++ y.pre;
      eq = x.eq ∙ ap (λ t. x.pre ++ t) y.eq ∙ sym (append_assoc x.pre y.pre rest);
      again = λ z f.
          let g : Follows (seq p) rest z = elim f [ inl e ↦ inl e | inr c ↦ inr (and_true (ends a (front p (peek z))) (fits p (peek z)) c).1 ] in
          let one = x.again (y.pre ++ z) (follows_part a y.pre z s y.eq f) in
          let l = length-append x.pre mid in let n = ap length x.eq in let o = length-append x.pre (y.pre ++ z) in
          moved (part one (weaken (y.again z g) d (m - (length (x.pre ++ (y.pre ++ z)) - length (y.pre ++ z))) (omega arith) (omega arith))) (sym (append_assoc x.pre y.pre z));
    }
swap (rule {a = a} {r = x} {ts = ts} {rest = rest} c r) =
    let s = swap r in record {
      pre = s.pre;
      eq = s.eq;
      again = λ z f.
          let g : Follows (seq (production x)) rest z = elim f [ inl e ↦ inl e | inr w ↦ inr (rule_fits a (peek ts) (peek z) x c w) ] in
          rule (rule_again a x s.pre z c r s.eq f) (s.again z g);
    }
swap (alone {a = a} {b = b} {rest = rest} o r n) =
    let s = swap r in record {
      pre = s.pre;
      eq = s.eq;
      again = λ z f. elim f [
        | inl e ↦ alone o (s.again z (inl e)) (rw (← e) n)
        | inr w ↦ let t = level_ends a b (peek z) o w in alone o (s.again z (inr t.0)) t.2
      ];
    }
swap (chain {d = d} {m = m} {a = a} {b = b} {ts = ts} {mid = mid} {rest = rest} o r n s) =
    let x = swap r in let y = swap s in record {
      pre = x.pre ++ y.pre;
      eq = x.eq ∙ ap (λ t. x.pre ++ t) y.eq ∙ sym (append_assoc x.pre y.pre rest);
      again = λ z f.
          let g : Follows (part_of (steps a)) rest z = elim f [ inl e ↦ inl e | inr w ↦ inr (level_ends a b (peek z) o w).1 ] in
          let same = peek_same y.pre mid rest z y.eq (steps_read a s n) in
          let l = length-append x.pre mid in let k = ap length x.eq in let u = length-append x.pre (y.pre ++ z) in
          moved (chain o (x.again (y.pre ++ z) (inl same)) (rw (← same) n)
          (weaken (y.again z g) (d - 1) (m - (length (x.pre ++ (y.pre ++ z)) - length (y.pre ++ z))) (omega arith) (omega arith))) (sym (append_assoc x.pre y.pre z));
    }

-- ---- shortest lists

abbrev pub plain : Kind → Lexeme
plain kind = record { kind = kind; detail = Only; at = 0; line = 0; number = 0; int = pos 0; text = []; parts = [] }

abbrev pub plains : List Kind → List Lexeme
plains [] = []
plains (kind ∷ kinds) = plain kind ∷ plains kinds

abbrev pub least_of : Part → List Lexeme
least_of a = plains (least_kinds a)

abbrev pub least : List Symbol → List Lexeme
least [] = []
least (tok kind ∷ p) = plain kind ∷ least p
least (sub a ∷ p) = least_of a ++ least p

peek_plains : (ks : List Kind) (rest z : List Lexeme) → peek ((plains ks ++ rest) ++ z) ≡ first_or ks (peek (rest ++ z))
peek_plains [] rest z = refl
peek_plains (k ∷ ks) rest z = refl

pub peek_least : (p : List Symbol) (z : List Lexeme) → peek (least p ++ z) ≡ front p (peek z)
peek_least [] z = refl
peek_least (tok x ∷ p) z = refl
peek_least (sub a ∷ p) z = peek_plains (least_kinds a) (least p) z ∙ ap (first_or (least_kinds a)) (peek_least p z)

abbrev pub ReadsOne : ℕ → Part → List Lexeme → List Lexeme → Type 0
ReadsOne d a ts rest = (v : Value) × Reads d 0 (part_of a) (v ∷ []) ts rest

empty_reads : (a : Part) (d : ℕ) (z : List Lexeme) → is_solid a ≡ false → ends a (peek z) ≡ true → ReadsOne d a z z
empty_reads a d z s h = (act (none_of a) [], rule (at_end a (peek z) s h) (regoal done (ap seq (sym (empty_production a)))))

plains_append : (ks js : List Kind) → plains (ks ++ js) ≡ plains ks ++ plains js
plains_append [] js = refl
plains_append (k ∷ ks) js = ap (λ l. plain k ∷ l) (plains_append ks js)

least_plains : (p : List Symbol) → plains (least_list p) ≡ least p
least_plains [] = refl
least_plains (tok k ∷ p) = ap (λ l. plain k ∷ l) (least_plains p)
least_plains (sub a ∷ p) = plains_append (least_kinds a) (least_list p) ∙ ap (λ l. least_of a ++ l) (least_plains p)

-- with a token among the symbols, what follows does not count
front_token : (p : List Symbol) (j k : Kind) → has_token p ≡ true → front p j ≡ front p k
front_token [] j k h = absurd cc
front_token (tok x ∷ p) j k h = refl
front_token (sub a ∷ p) j k h = first_token (least_kinds a) (front p j) (front p k) (λ n. front_token p j k (rw n at h))

abbrev pub ReadsMany : ℕ → List Symbol → List Lexeme → List Lexeme → Type 0
ReadsMany d p ts rest = (vs : List Value) × Reads d 0 (seq p) vs ts rest

-- the shortest lists of parts of a rank below n are read
abbrev Below : ℕ → Type 0
Below n = (a : Part) (d : ℕ) (z : List Lexeme) → rank a < n → ends a (peek z) ≡ true → ReadsOne d a (least_of a ++ z) z

many_below : (n : ℕ) → Below n → (m : ℕ) → m ≤ n → (p : List Symbol) (d : ℕ) (z : List Lexeme) → are_below m p ≡ true → fits p (peek z) ≡ true → ReadsMany d p (least p ++ z) z
many_below n go m l [] d z b h = ([], done)
many_below n go m l (tok x ∷ p) d z b h = let r = many_below n go m l p d z b h in (leaf (plain x) ∷ r.0, token refl (λ h. absurd (omega arith)) r.1)
many_below n go m l (sub a ∷ p) d z b h =
    let f = and_true (ends a (front p (peek z))) (fits p (peek z)) h in
    let g = and_true (nat_lt (rank a) m) (are_below m p) b in
    let low : rank a < m = lt-below (rank a) m g.0 in
    let one = go a d (least p ++ z) (omega arith) (rw (peek_least p z) f.0) in let r = many_below n go m l p d z g.1 f.1 in
    (one.0 ∷ r.0, moved (part one.1 (weaken r.1 d _ (omega arith) (omega arith))) (sym (append_assoc (least_of a) (least p) z)))

ruled_reads : (n : ℕ) → Below n → (a : Part) (r : Rule) (d : ℕ) (z : List Lexeme) → rank a ≤ n → choose a (front (production r) End) ≡ Some r → least_kinds a ≡ least_list (production r)
    → are_below (rank a) (production r) ≡ true → has_token (production r) ≡ true → ends a (peek z) ≡ true → ReadsOne d a (least_of a ++ z) z
ruled_reads n go a r d z l c e b t h =
    let same : least_of a ≡ least (production r) = ap plains e ∙ least_plains (production r) in
    let x = many_below n go (rank a) l (production r) (d - weight r) z b (rule_fits a _ (peek z) r c h) in
    let at : peek (least (production r) ++ z) ≡ front (production r) End = peek_least (production r) z ∙ front_token (production r) _ _ t in
    let there : choose a (peek (least (production r) ++ z)) ≡ Some r = rw at c in
    (act r x.0, moved (rule there x.1) (ap (λ y. y ++ z) (sym same)))

level_reads : (a b : Part) (d : ℕ) (z : List Lexeme) → operand a ≡ Some b → least_kinds a ≡ least_kinds b → ends a (peek z) ≡ true → ReadsOne d b (least_of b ++ z) z → ReadsOne d a (least_of a ++ z) z
level_reads a b d z o e h x = (x.0, moved (alone o x.1 (level_ends a b (peek z) o h).2) (ap (λ y. plains y ++ z) (sym e)))

nullable_reads : (a : Part) (d : ℕ) (z : List Lexeme) → is_solid a ≡ false → ends a (peek z) ≡ true → ReadsOne d a (least_of a ++ z) z
nullable_reads a d z s h = let x = empty_reads a d z s h in (x.0, moved x.1 (ap (λ y. plains y ++ z) (sym (not_cons (least_kinds a) s))))

below : (n : ℕ) → Below n
below zero a d z l h = absurd (omega arith)
below (suc n) a d z l h = elim (sort_of a) [
  | nullable s ↦ nullable_reads a d z s h
  | ruled r c e q ↦ let p = and_true (are_below (rank a) (production r)) (has_token (production r)) q in ruled_reads n (below n) a r d z (omega arith) c e p.0 p.1 h
  | leveled_on b o e q ↦ let low = lt-below (rank b) (rank a) q in level_reads a b d z o e h (below n b d z (omega arith) (level_ends a b (peek z) o h).0)
]

pub least_reads : (a : Part) (d : ℕ) (z : List Lexeme) → ends a (peek z) ≡ true → ReadsOne d a (least_of a ++ z) z
least_reads a d z h = below (suc (rank a)) a d z (omega arith) h

pub least_many : (p : List Symbol) (d : ℕ) (z : List Lexeme) → fits p (peek z) ≡ true → ReadsMany d p (least p ++ z) z
least_many [] d z h = ([], done)
least_many (tok x ∷ p) d z h = let r = least_many p d z h in (leaf (plain x) ∷ r.0, token refl (λ h. absurd (omega arith)) r.1)
least_many (sub a ∷ p) d z h =
    let b = and_true (ends a (front p (peek z))) (fits p (peek z)) h in
    let one = least_reads a d (least p ++ z) (rw (peek_least p z) b.0) in let r = least_many p d z b.1 in
    (one.0 ∷ r.0, moved (part one.1 (weaken r.1 d _ (omega arith) (omega arith))) (sym (append_assoc (least_of a) (least p) z)))
