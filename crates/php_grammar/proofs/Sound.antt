-- What a run gives is read, and up to a fault the tokens go on to something that is read.
use Rattle.std.proofs.Common.{◌≡◌, ℕ, suc, ◌+◌, ◌-◌, ◌<◌, ◌≤◌, max, Bool, true, false, ◌&&◌, ◌||◌, List, [], ◌∷◌, ◌++◌, length, Option, Some, None, ◌⊎◌, inl, inr, refl, ap, sym, ◌∙◌, subst, arith, length-append, append_assoc}
use Rattle.php_grammar.specs.declared.token.Kind.{Kind}
use Rattle.php_grammar.specs.declared.token.Fault.{Fault}
use Rattle.php_grammar.specs.declared.token.Fault.TheVariants.{Bad, Deep}
use Rattle.php_grammar.specs.Parts.{Part, Symbol, tok, sub, Rule}
use Rattle.php_grammar.specs.Grammar.{steps, operand, goes_on, choose, production, weight}
use Rattle.php_grammar.specs.Values.{Value, leaf, unit_of, Lexeme}
use Rattle.php_grammar.specs.Act.{act, link}
use Rattle.php_grammar.specs.Reads.{peek, Goal, part_of, seq, Reads}
use Rattle.php_grammar.specs.Reads as reads
use Rattle.php_grammar.specs.Run.{Outcome, got, fault, with_token, with_part, made, only, linked, Run, token, other, ended, deep, part, part_fault, rule, none, alone, first_fault, chain_deep, chain, done}
use Rattle.php_grammar.proofs.Table.{is_solid, has_token, solid, ends, front, fits, closes}
use Rattle.php_grammar.proofs.Facts.{rule_fits, level_ends, solid_rule, solid_level, step_of, no_end, and_true, or_true, either}
use Rattle.php_grammar.proofs.Weights.{weighed}
use Rattle.php_grammar.proofs.Laws.{shrinks, weaken, loose, as_one, moved, regoal}
use Rattle.php_grammar.proofs.Closing.{solid_reads, Follows, Swapped, swap, peek_same, least, least_many, peek_least}

pub record Got (d : ℕ) (g : Goal) (ts : List Lexeme) (vs : List Value) (h : ℕ) (rest : List Lexeme) : Type 0 where
  pub read : (m : ℕ) → Reads h m g vs ts rest
  pub low : h ≤ d
  pub some : solid g ≡ true → 0 < h

-- the tokens q go on to something that is read, whatever may follow it
abbrev pub Closes : ℕ → ℕ → List Lexeme → Goal → Type 0
Closes d m q g = (c : List Lexeme) × ((z : List Lexeme) → closes g (peek z) ≡ true → (vs : List Value) × Reads d m g vs (q ++ (c ++ z)) z)

pub record Stops (d : ℕ) (g : Goal) (ts : List Lexeme) (f : Fault) (rest : List Lexeme) : Type 0 where
  pub pre : List Lexeme
  pub eq : ts ≡ pre ++ rest
  pub good : (pre ≡ []) ⊎ ((pre ≡ [] → ⊥) × Closes d (length pre) pre g)
  pub more : f ≡ Deep → (t : Lexeme) × (q : List Lexeme) × (rest ≡ t ∷ q) × Closes d 0 (pre ++ t ∷ []) g

abbrev pub Holds : ℕ → Goal → List Lexeme → Outcome → Type 0
Holds d g ts (got vs h rest) = Got d g ts vs h rest
Holds d g ts (fault f rest) = Stops d g ts f rest

-- ---- closing lists, by where the fault is

Starts : List Lexeme → List Lexeme → Type 0
Starts q ts = (x : List Lexeme) → peek (q ++ x) ≡ peek ts

starts : (pre rest ts : List Lexeme) → ts ≡ pre ++ rest → (pre ≡ [] → ⊥) → Starts pre ts
unfolding Starts
starts [] rest ts e n = absurd (n refl)
starts (t ∷ pre) rest ts e n = λ x. rw e

starts_at : (pre q rest ts : List Lexeme) (t : Lexeme) → ts ≡ pre ++ rest → rest ≡ t ∷ q → Starts (pre ++ t ∷ []) ts
unfolding Starts
starts_at [] q rest ts t e f = λ x. rw (e, f)
starts_at (u ∷ pre) q rest ts t e f = λ x. rw e

close_least : (p : List Symbol) (d : ℕ) → Closes d 0 [] (seq p)
close_least p d = (least p, λ z h. least_many p d z h)

close_rule : (d m : ℕ) (a : Part) (r : Rule) (q ts : List Lexeme) → choose a (peek ts) ≡ Some r → Starts q ts → Closes (d - weight r) m q (seq (production r)) → Closes d m q (part_of a)
unfolding Starts
close_rule d m a r q ts c s k = (
  k.0,
  λ z h.
      let x = k.1 z (rule_fits a (peek ts) (peek z) r c h) in (act r x.0 ∷ [], reads.rule (rw (s (k.0 ++ z)) c) x.1),
)

close_token : (d m : ℕ) (kind : Kind) (p : List Symbol) (t : Lexeme) (q : List Lexeme) → t.kind ≡ kind → (0 < m → 0 < d) → Closes d (m - 1) q (seq p) → Closes d m (t ∷ q) (seq (tok kind ∷ p))
close_token d m kind p t q e ok k = (k.0, λ z h. let x = k.1 z h in (leaf t ∷ x.0, reads.token e ok x.1))

close_in : (d m : ℕ) (a : Part) (p : List Symbol) (q : List Lexeme) → m ≤ length q → Closes d m q (part_of a) → Closes d m q (seq (sub a ∷ p))
close_in d m a p q n k = (
  k.0 ++ least p,
  λ z h.
      let b = and_true (ends a (front p (peek z))) (fits p (peek z)) h in
      let x = k.1 (least p ++ z) (rw (peek_least p z) b.0) in let one = as_one x.1 in let l = least_many p d z b.1 in
      let i = length-append q (k.0 ++ (least p ++ z)) in let j = length-append k.0 (least p ++ z) in
      (one.0 ∷ l.0, moved (reads.part one.2 (weaken l.1 d _ (omega arith) (omega arith))) (ap (λ y. q ++ y) (sym (append_assoc k.0 (least p) z)))),
)

close_level : (d m : ℕ) (a b : Part) (q : List Lexeme) → operand a ≡ Some b → Closes d m q (part_of b) → Closes d m q (part_of a)
close_level d m a b q o k = (
  k.0,
  λ z h.
      let l = level_ends a b (peek z) o h in let x = k.1 z l.0 in let one = as_one x.1 in (one.0 ∷ [], reads.alone o one.2 l.2),
)

close_fewer : (d m n : ℕ) (g : Goal) (q : List Lexeme) → n ≤ m → Closes d m q g → Closes d n q g
close_fewer d m n g q l k = (k.0, λ z h. let x = k.1 z h in (x.0, weaken x.1 d n (omega arith) l))

close_moved : (d m : ℕ) (g : Goal) (q r : List Lexeme) → q ≡ r → Closes d m q g → Closes d m r g
close_moved d m g q r e k = subst (λ y. Closes d m y g) e k

append_none : (q : List Lexeme) → q ++ [] ≡ q
append_none [] = refl
append_none (t ∷ q) = ap (λ x. t ∷ x) (append_none q)

not_none : (a b : List Lexeme) → (b ≡ [] → ⊥) → a ++ b ≡ [] → ⊥
not_none [] b n e = n e
not_none (t ∷ a) b n e = cc

-- the first of two parts is read, to budget d
module _ (d : ℕ) (a : Part) (v : Value) (ts mid : List Lexeme) (x : Swapped d (length ts) (part_of a) (v ∷ []) ts mid) where
  close_after : (p : List Symbol) (m : ℕ) (q : List Lexeme) → Starts q mid → m ≤ length mid → Closes d m q (seq p) → Closes d (length x.pre + m) (x.pre ++ q) (seq (sub a ∷ p))
  unfolding Starts
  close_after p m q s n k = (
    k.0,
    λ z h.
        let b = and_true (ends a (front p (peek z))) (fits p (peek z)) h in let y = k.1 z b.1 in
        let one = x.again (q ++ (k.0 ++ z)) (inl (sym (s (k.0 ++ z)))) in
        let i = length-append x.pre (q ++ (k.0 ++ z)) in let j = length-append x.pre mid in let l = ap length x.eq in
        (v ∷ y.0, moved (reads.part (weaken one d (length x.pre + m) (omega arith) (omega arith)) (weaken y.1 d _ (omega arith) (omega arith))) (sym (append_assoc x.pre q (k.0 ++ z)))),
  )

  close_none : (p : List Symbol) → Closes d (length x.pre) x.pre (seq (sub a ∷ p))
  close_none p = (
    least p,
    λ z h.
        let b = and_true (ends a (front p (peek z))) (fits p (peek z)) h in let y = least_many p d z b.1 in
        let one = x.again (least p ++ z) (inr (rw (peek_least p z) b.0)) in
        let i = length-append x.pre (least p ++ z) in let j = length-append x.pre mid in let l = ap length x.eq in
        (v ∷ y.0, reads.part (weaken one d (length x.pre) (omega arith) (omega arith)) (weaken y.1 d _ (omega arith) (omega arith))),
  )

  level_none : (c : Part) → operand c ≡ Some a → Closes d (length x.pre) x.pre (part_of c)
  level_none c o = (
    [],
    λ z h.
        let l = level_ends c a (peek z) o h in let j = length-append x.pre mid in let i = ap length x.eq in
        (v ∷ [], reads.alone o (weaken (x.again z (inr l.0)) d (length x.pre) (omega arith) (omega arith)) l.2),
  )

  -- too deep, but read where no token counts
  level_deep : (c : Part) (t : Lexeme) (q : List Lexeme) → operand c ≡ Some a → mid ≡ t ∷ q → goes_on c t.kind ≡ true → Closes d 0 (x.pre ++ t ∷ []) (part_of c)
  level_deep c t q o e n = let s = step_of c t.kind n in (
    least s.onward,
    λ z h.
        let y = least_many s.onward (d - 1 - weight s.by) z (s.fitting (peek z) (level_ends c a (peek z) o h).1) in
        let one = x.again (t ∷ (least s.onward ++ z)) (inl (rw e)) in
        let two = reads.rule s.chosen (regoal (reads.token {m = 0} refl (λ h. absurd (omega arith)) (weaken y.1 (d - 1 - weight s.by) _ (omega arith) (omega arith))) (ap seq (sym s.made))) in
        (_, moved (reads.chain o (loose one (d - 1) 0 refl) n (loose two (d - 1) _ (omega arith))) (sym (append_assoc x.pre (t ∷ []) (least s.onward ++ z)))),
  )

  level_steps : (c : Part) (m e : ℕ) (q : List Lexeme) → operand c ≡ Some a → goes_on c (peek mid) ≡ true → Starts q mid → m ≤ length mid → d ≡ e - 1 → Closes d m q (part_of (steps c))
      → Closes e (length x.pre + m) (x.pre ++ q) (part_of c)
  unfolding Starts
  level_steps c m e q o n s u w k = (
    k.0,
    λ z h.
        let l = level_ends c a (peek z) o h in let y = k.1 z l.1 in let other = as_one y.1 in
        let one = x.again (q ++ (k.0 ++ z)) (inl (sym (s (k.0 ++ z)))) in
        let i = length-append x.pre (q ++ (k.0 ++ z)) in let j = length-append x.pre mid in let f = ap length x.eq in (
          _,
          moved (reads.chain o (weaken one (e - 1) (length x.pre + m) (omega arith) (omega arith)) (rw (s (k.0 ++ z)) n) (weaken other.2 (e - 1) _ (omega arith) (omega arith)))
              (sym (append_assoc x.pre q (k.0 ++ z))),
        ),
  )

swapped : (d h : ℕ) (a : Part) (v : Value) (ts mid : List Lexeme) → Got d (part_of a) ts (v ∷ []) h mid → (e : ℕ) → h ≤ e → Swapped e (length ts) (part_of a) (v ∷ []) ts mid
swapped d h a v ts mid g e l = swap (weaken (g.read (length ts)) e (length ts) l (omega arith))

-- ---- the cases

closed : (d : ℕ) (p : List Symbol) (q : List Lexeme) → (q ≡ []) ⊎ ((q ≡ [] → ⊥) × Closes d (length q) q (seq p)) → Closes d (length q) q (seq p)
closed d p q (inl n) = subst (λ y. Closes d (length y) y (seq p)) (sym n) (close_least p d)
closed d p q (inr k) = k.1

on_token : (d : ℕ) (t : Lexeme) (kind : Kind) (p : List Symbol) (ts : List Lexeme) (o : Outcome) → t.kind ≡ kind → 0 < d → Holds d (seq p) ts o → Holds d (seq (tok kind ∷ p)) (t ∷ ts) (with_token t o)
on_token d t kind p ts (got vs h rest) e l g = record {
  read = λ m. reads.token e (λ x. omega arith) (weaken (g.read (m - 1)) (max 1 h) (m - 1) (omega arith) (omega arith));
  low = let x = g.low in omega arith;
  some = λ x. omega arith;
}
on_token d t kind p ts (fault f rest) e l s = record {
  pre = t ∷ s.pre;
  eq = ap (λ x. t ∷ x) s.eq;
  good = inr (λ x. cc, close_token d _ kind p t s.pre e (λ x. l) (close_fewer d (length s.pre) _ (seq p) s.pre (omega arith) (closed d p s.pre s.good)));
  more = λ x. let y = s.more x in (y.0, y.1, y.2, close_token d 0 kind p t _ e (λ z. l) (close_fewer d 0 _ (seq p) _ (omega arith) y.3));
}

empty_or : (q : List Lexeme) → (q ≡ []) ⊎ (q ≡ [] → ⊥)
empty_or [] = inl refl
empty_or (t ∷ q) = inr (λ e. cc)

not_first : (b c : List Lexeme) → (b ≡ [] → ⊥) → b ++ c ≡ [] → ⊥
not_first [] c n e = n refl
not_first (t ∷ b) c n e = cc

pub as_these : {d m : ℕ} {g : Goal} {vs ws : List Value} {ts rest : List Lexeme} → Reads d m g vs ts rest → vs ≡ ws → Reads d m g ws ts rest
as_these {d = d} {m = m} {g = g} {ts = ts} {rest = rest} r e = subst (λ x. Reads d m g x ts rest) e r

on_part : (d h : ℕ) (a : Part) (v : Value) (p : List Symbol) (ts mid : List Lexeme) (o : Outcome) → Got d (part_of a) ts (v ∷ []) h mid → Holds d (seq p) mid o → Holds d (seq (sub a ∷ p)) ts (with_part v h o)
on_part d h a v p ts mid (got vs i rest) g k = record {
  read = λ m. reads.part (weaken (g.read m) (max h i) m (omega arith) (omega arith)) (weaken (k.read (m - (length ts - length mid))) (max h i) _ (omega arith) (omega arith));
  low = let x = g.low in let y = k.low in omega arith;
  some = λ x. elim (or_true (is_solid a) (has_token p) x) [ inl y ↦ let z = g.some y in omega arith | inr y ↦ let z = k.some y in omega arith ];
}
on_part d h a v p ts mid (fault f rest) g s =
    let x = swapped d h a v ts mid g d g.low in
    let n = length-append s.pre rest in let w = ap length s.eq in record {
      pre = x.pre ++ s.pre;
      eq = x.eq ∙ ap (λ y. x.pre ++ y) s.eq ∙ sym (append_assoc x.pre s.pre rest);
      good = elim s.good [
        | inl nil ↦ elim (empty_or x.pre) [
          | inl e ↦ inl (rw (e, nil))
          | inr e ↦ inr (
            not_first x.pre s.pre e,
            subst (λ y. Closes d (length (x.pre ++ y)) (x.pre ++ y) (seq (sub a ∷ p))) (sym nil)
                (rw (append_none x.pre) (close_none d a v ts mid x p)),
          )
        ]
        | inr k ↦ inr (
          not_none x.pre s.pre k.0,
          close_fewer d (length x.pre + length s.pre) _ _ _ (let y = length-append x.pre s.pre in omega arith)
              (close_after d a v ts mid x p (length s.pre) s.pre (starts s.pre rest mid s.eq k.0) (omega arith) k.1),
        )
      ];
      more = λ y. let m = s.more y in (
        m.0,
        m.1,
        m.2,
        close_moved d 0 _ _ _ (sym (append_assoc x.pre s.pre (m.0 ∷ [])))
            (close_fewer d (length x.pre + 0) 0 _ _ (omega arith) (close_after d a v ts mid x p 0 (s.pre ++ m.0 ∷ []) (starts_at s.pre m.1 rest mid m.0 s.eq m.2) (omega arith) m.3)),
      );
    }

on_rule : (d : ℕ) (a : Part) (r : Rule) (ts : List Lexeme) (o : Outcome) → choose a (peek ts) ≡ Some r → Holds (d - weight r) (seq (production r)) ts o → Holds d (part_of a) ts (made r o)
on_rule d a r ts (got vs h rest) c g = record {
  read = λ m. reads.rule c (weaken (g.read m) (weight r + h - weight r) m (omega arith) (omega arith));
  low = elim (weighed r) [ inl w ↦ let l = g.low in omega arith | inr w ↦ let l = g.low in let s = g.some w.1 in omega arith ];
  some = λ s. let x = g.some (solid_rule a (peek ts) r c s) in omega arith;
}
on_rule d a r ts (fault f rest) c s = record {
  pre = s.pre;
  eq = s.eq;
  good = elim s.good [ inl n ↦ inl n | inr k ↦ inr (k.0, close_rule d (length s.pre) a r s.pre ts c (starts s.pre rest ts s.eq k.0) k.1) ];
  more = λ x. let m = s.more x in (m.0, m.1, m.2, close_rule d 0 a r _ ts c (starts_at s.pre m.1 rest ts m.0 s.eq m.2) m.3);
}

on_alone : (d h : ℕ) (a b : Part) (v : Value) (ts rest : List Lexeme) → operand a ≡ Some b → Got d (part_of b) ts (v ∷ []) h rest → goes_on a (peek rest) ≡ false → Got d (part_of a) ts (v ∷ []) h rest
on_alone d h a b v ts rest o g n = record { read = λ m. reads.alone o (g.read m) n; low = g.low; some = λ s. g.some (solid_level a b o).1 }

first_some : (d h : ℕ) (a b : Part) (v : Value) (ts mid : List Lexeme) → operand a ≡ Some b → Got d (part_of b) ts (v ∷ []) h mid → (q : List Lexeme) → ts ≡ q ++ mid → q ≡ [] → ⊥
first_some d h a b v ts mid o g [] e n = let l = solid_reads (g.read 0) (solid_level a b o).1 in let k = ap length e in absurd (omega arith)
first_some d h a b v ts mid o g (t ∷ q) e n = cc

-- a level goes on before a token
operator : (a : Part) (mid : List Lexeme) → goes_on a (peek mid) ≡ true → (t : Lexeme) × (q : List Lexeme) × (mid ≡ t ∷ q)
operator a [] n = let e = no_end a in absurd cc
operator a (t ∷ q) n = (t, q, refl)

on_deep : (d h : ℕ) (a b : Part) (v : Value) (ts mid : List Lexeme) → operand a ≡ Some b → Got d (part_of b) ts (v ∷ []) h mid → goes_on a (peek mid) ≡ true → Stops d (part_of a) ts Deep mid
on_deep d h a b v ts mid o g n =
    let x = swapped d h b v ts mid g d g.low in record {
      pre = x.pre;
      eq = x.eq;
      good = inr (first_some d h a b v ts mid o g x.pre x.eq, level_none d b v ts mid x a o);
      more = λ e. let m = operator a mid n in (m.0, m.1, m.2, level_deep d b v ts mid x a m.0 m.1 o m.2 (rw m.2 at n));
    }

close_more : (d e m : ℕ) (g : Goal) (q : List Lexeme) → d ≤ e → Closes d m q g → Closes e m q g
close_more d e m g q l k = (k.0, λ z h. let x = k.1 z h in (x.0, weaken x.1 e m l (omega arith)))

on_chain : (d h : ℕ) (a b : Part) (v : Value) (ts mid : List Lexeme) (out : Outcome) → operand a ≡ Some b → Got d (part_of b) ts (v ∷ []) h mid → goes_on a (peek mid) ≡ true → h < d
    → Holds (d - 1) (part_of (steps a)) mid out → Holds d (part_of a) ts (linked v h out)
on_chain d h a b v ts mid (got ws i rest) o g n l k =
    let e = as_one (k.read 0) in let w : only ws ≡ e.0 = ap only e.1 in record {
      read = λ m. rw w (reads.chain o (weaken (g.read m) (suc (max h i) - 1) m (omega arith) (omega arith)) n
          (weaken (as_these (k.read (m - (length ts - length mid))) e.1) (suc (max h i) - 1) _ (omega arith) (omega arith)));
      low = let x = k.low in let y = g.some (solid_level a b o).1 in omega arith;
      some = λ x. omega arith;
    }
on_chain d h a b v ts mid (fault f rest) o g n l s =
    let x = swapped d h b v ts mid g (d - 1) (omega arith) in
    let c = first_some d h a b v ts mid o g x.pre x.eq in
    let u = length-append s.pre rest in let w = ap length s.eq in record {
      pre = x.pre ++ s.pre;
      eq = x.eq ∙ ap (λ y. x.pre ++ y) s.eq ∙ sym (append_assoc x.pre s.pre rest);
      good = inr (
        not_first x.pre s.pre c,
        elim s.good [
          | inl nil ↦ subst (λ y. Closes d (length (x.pre ++ y)) (x.pre ++ y) (part_of a)) (sym nil)
              (rw (append_none x.pre) (close_more (d - 1) d _ _ _ (omega arith) (level_none (d - 1) b v ts mid x a o)))
          | inr k ↦ close_fewer d (length x.pre + length s.pre) _ _ _ (let y = length-append x.pre s.pre in omega arith)
              (level_steps (d - 1) b v ts mid x a (length s.pre) d s.pre o n (starts s.pre rest mid s.eq k.0) (omega arith) refl k.1)
        ],
      );
      more = λ y. let m = s.more y in (
        m.0,
        m.1,
        m.2,
        close_moved d 0 _ _ _ (sym (append_assoc x.pre s.pre (m.0 ∷ [])))
            (close_fewer d (length x.pre + 0) 0 _ _ (omega arith)
            (level_steps (d - 1) b v ts mid x a 0 d (s.pre ++ m.0 ∷ []) o n (starts_at s.pre m.1 rest mid m.0 s.eq m.2) (omega arith) refl m.3)),
      );
    }

pub sound : {d : ℕ} {g : Goal} {ts : List Lexeme} {o : Outcome} → Run d g ts o → Holds d g ts o
sound done = record { read = λ m. reads.done; low = omega arith; some = λ x. absurd cc }
sound (token e l r) = on_token _ _ _ _ _ _ e l (sound r)
sound (other n) = record { pre = []; eq = refl; good = inl refl; more = λ x. absurd cc }
sound ended = record { pre = []; eq = refl; good = inl refl; more = λ x. absurd cc }
sound (deep {t = t} {kind = kind} {p = p} {ts = ts} e z) = record {
  pre = [];
  eq = refl;
  good = inl refl;
  more = λ x. (t, ts, refl, close_token _ 0 kind p t [] e (λ y. absurd (omega arith)) (close_fewer _ 0 _ (seq p) [] (omega arith) (close_least p _)));
}
sound (part r s) = on_part _ _ _ _ _ _ _ _ (sound r) (sound s)
sound (part_fault {d = d} {a = a} {p = p} r) = let s = sound r in record {
  pre = s.pre;
  eq = s.eq;
  good = elim s.good [ inl n ↦ inl n | inr k ↦ inr (k.0, close_in d (length s.pre) a p s.pre (omega arith) k.1) ];
  more = λ x. let m = s.more x in (m.0, m.1, m.2, close_in d 0 a p _ (omega arith) m.3);
}
sound (rule c r) = on_rule _ _ _ _ _ c (sound r)
sound (none o c) = record { pre = []; eq = refl; good = inl refl; more = λ x. absurd cc }
sound (alone o r n) = on_alone _ _ _ _ _ _ _ o (sound r) n
sound (first_fault {d = d} {a = a} {b = b} o r) = let s = sound r in record {
  pre = s.pre;
  eq = s.eq;
  good = elim s.good [ inl n ↦ inl n | inr k ↦ inr (k.0, close_level d (length s.pre) a b s.pre o k.1) ];
  more = λ x. let m = s.more x in (m.0, m.1, m.2, close_level d 0 a b _ o m.3);
}
sound (chain_deep o r n l) = on_deep _ _ _ _ _ _ _ o (sound r) n
sound (chain o r n l s) = on_chain _ _ _ _ _ _ _ _ o (sound r) n l (sound s)
