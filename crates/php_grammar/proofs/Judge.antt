-- What a run over a file tells.
use Rattle.std.proofs.Math.Seq.{take-append_seam}
use Rattle.std.proofs.Common.{◌≡◌, ℕ, zero, suc, append_assoc, ◌+◌, ◌-◌, ◌<◌, ◌≤◌, max, List, [], ◌∷◌, ◌++◌, length, take, ◌⊎◌, inl, inr, refl, ap, sym, ◌∙◌, subst, arith, length-append}
use Rattle.php_grammar.specs.declared.token.Kind.TheVariants as k
use Rattle.php_grammar.specs.declared.token.Fault.{Fault}
use Rattle.php_grammar.specs.declared.token.Fault.TheVariants.{Bad, Deep}
use Rattle.php_tree.specs.Statements.{Statements}
use Rattle.php_grammar.specs.Parts.{Part, Rule, file}
use Rattle.php_grammar.specs.Grammar.{weight}
use Rattle.php_grammar.specs.Values.{Value, stmts_of, Lexeme}
use Rattle.php_grammar.specs.Reads.{Goal, part_of, seq, Reads, done, token, part, rule, alone, chain}
use Rattle.php_grammar.specs.Run.{Outcome, got, fault, Run}
use Rattle.php_grammar.specs.Place.{budget, IsFile, IsTree, Shares, IsKind, IsFault}
use Rattle.php_grammar.proofs.Laws.{shrinks, weaken, loose, as_one}
use Rattle.php_grammar.proofs.Closing.{least_reads, swap}
use Rattle.php_grammar.proofs.Sound.{Closes, Stops, sound}
use Rattle.php_grammar.proofs.Exact.{Agree, agree_fewer, Same, Past, exact}

-- all that is read counts
pub all_count : {d m : ℕ} {g : Goal} {vs : List Value} {ts rest : List Lexeme} → Reads d m g vs ts rest → (n : ℕ) → length ts - length rest ≤ m → Reads d n g vs ts rest
all_count done n l = done
all_count (token e ok r) n l = let i = shrinks r in token e (λ h. ok (omega arith)) (all_count r (n - 1) (omega arith))
all_count (part r s) n l = let i = shrinks r in let j = shrinks s in part (all_count r n (omega arith)) (all_count s _ (omega arith))
all_count (rule c r) n l = rule c (all_count r n l)
all_count (alone o r y) n l = alone o (all_count r n l) y
all_count (chain o r y s) n l = let i = shrinks r in let j = shrinks s in chain o (all_count r n (omega arith)) y (all_count s _ (omega arith))

-- some budget is enough
abbrev pub Enough : Goal → List Value → List Lexeme → List Lexeme → Type 0
Enough g vs ts rest = (d : ℕ) × ((m : ℕ) → Reads d m g vs ts rest)

pub enough : {d m : ℕ} {g : Goal} {vs : List Value} {ts rest : List Lexeme} → Reads d m g vs ts rest → Enough g vs ts rest
enough done = (0, λ m. done)
enough (token e ok r) = let x = enough r in (suc x.0, λ m. token e (λ h. omega arith) (weaken (x.1 (m - 1)) (suc x.0) (m - 1) (omega arith) (omega arith)))
enough (part r s) = let x = enough r in let y = enough s in (max x.0 y.0, λ m. part (weaken (x.1 m) (max x.0 y.0) m (omega arith) (omega arith)) (weaken (y.1 m) (max x.0 y.0) _ (omega arith) (omega arith)))
enough (rule {r = y} c r) = let x = enough r in (weight y + x.0, λ m. rule c (weaken (x.1 m) (weight y + x.0 - weight y) m (omega arith) (omega arith)))
enough (alone o r y) = let x = enough r in (x.0, λ m. alone o (x.1 m) y)
enough (chain o r y s) = let x = enough r in let z = enough s in (suc (max x.0 z.0), λ m. chain o (weaken (x.1 m) (suc (max x.0 z.0) - 1) m (omega arith) (omega arith)) y (weaken (z.1 m) (suc (max x.0 z.0) - 1) _ (omega arith) (omega arith)))

-- ---- shared places

agrees : (m : ℕ) (xs ts : List Lexeme) → Shares m xs ts → Agree m xs ts
agrees m [] [] e = tt
agrees zero [] (t ∷ ts) e = refl
agrees zero (x ∷ xs) [] e = refl
agrees zero (x ∷ xs) (t ∷ ts) e = inl refl
agrees (suc m) [] (t ∷ ts) e = absurd cc
agrees (suc m) (x ∷ xs) [] e = absurd cc
agrees (suc m) (x ∷ xs) (t ∷ ts) e = inr (cc, agree_fewer m (suc m - 1) xs ts (agrees m xs ts cc) (omega arith))

shares_front : (q x y : List Lexeme) → Shares (length q) (q ++ x) (q ++ y)
shares_front q x y = rw (take-append_seam q x, take-append_seam q y)

shares_at : (q r ts x : List Lexeme) → ts ≡ q ++ r → Shares (length q) (q ++ x) ts
shares_at q r ts x e = rw e (shares_front q x r)

shares_next : (q r ts : List Lexeme) (t : Lexeme) (x : List Lexeme) → ts ≡ q ++ (t ∷ r) → Shares (suc (length q)) ((q ++ t ∷ []) ++ x) ts
shares_next q r ts t x e =
    let n : length (q ++ t ∷ []) ≡ suc (length q) = (let l = length-append q (t ∷ []) in omega arith) in
    let same : ts ≡ (q ++ t ∷ []) ++ r = e ∙ sym (append_assoc q (t ∷ []) r) in
    rw (← n, same) (shares_front (q ++ t ∷ []) x r)

-- ---- the verdicts

clear : (f : Fault) (xs ts rest : List Lexeme) (p : ℕ) → Run budget (part_of file) ts (fault f rest) → p + length rest ≡ length ts → Shares (suc p) xs ts → IsFile (suc p) xs → ⊥
clear Bad xs ts rest p r e s i = let n = exact i.1 r (agrees _ _ _ s) in omega arith
clear Deep xs ts rest p r e s i = let n = exact i.1 r (agrees _ _ _ s) (omega arith) in omega arith

bad : (xs ts rest : List Lexeme) (p : ℕ) → Run budget (part_of file) ts (fault Bad rest) → p + length rest ≡ length ts → Shares (suc p) xs ts → IsFile 0 xs → ⊥
bad xs ts rest p r e s i = let x = enough i.1 in let n = exact (x.1 (suc p)) r (agrees _ _ _ s) in omega arith

closed_file : (m : ℕ) (q : List Lexeme) → Closes budget m q (part_of file) → (c : List Lexeme) × IsFile m (q ++ (c ++ []))
closed_file m q k = let x = k.1 [] refl in let one = as_one x.1 in (k.0, (one.0, one.2))

least_file : (c : List Lexeme) × IsFile 0 c
least_file = let x = least_reads file budget [] refl in (_, x)

fault_kind : (f : Fault) (ts rest : List Lexeme) → Run budget (part_of file) ts (fault f rest) → (s : Stops budget (part_of file) ts f rest) → length s.pre + length rest ≡ length ts → IsKind f (suc (length s.pre)) ts
fault_kind Bad ts rest r s e = λ xs k i. bad xs ts rest (length s.pre) r e k i
fault_kind Deep ts rest r s e =
    let m = s.more refl in let c = closed_file 0 _ m.3 in
    (_, shares_next s.pre m.1 ts m.0 (c.0 ++ []) (s.eq ∙ ap (λ y. s.pre ++ y) m.2), c.1)

fault_before : (f : Fault) (ts rest : List Lexeme) (s : Stops budget (part_of file) ts f rest) → (xs : List Lexeme) × Shares (length s.pre) xs ts × IsFile (length s.pre) xs
fault_before f ts rest s = elim s.good [
  | inl n ↦ rw n (least_file.0, refl, least_file.1)
  | inr k ↦ let c = closed_file (length s.pre) s.pre k.1 in (_, rw s.eq (shares_front s.pre (c.0 ++ []) rest), c.1)
]

-- A run's fault is the file's.
pub is_fault : (f : Fault) (ts rest : List Lexeme) → Run budget (part_of file) ts (fault f rest) → IsFault ts (length ts - length rest) f
is_fault f ts rest r =
    let s = sound r in let l = length-append s.pre rest in let n = ap length s.eq in
    let e : length s.pre + length rest ≡ length ts = omega arith in let place : length s.pre ≡ length ts - length rest = omega arith in
    subst (λ p. IsFault ts p f) place (record {
      before = fault_before f ts rest s;
      after = λ xs k i. clear f xs ts rest (length s.pre) r e k i;
      kind = fault_kind f ts rest r s e;
    })

-- Tokens after a file are bad.
after_end : (d : ℕ) (v : Value) (h : ℕ) (xs ts q : List Lexeme) (t : Lexeme) (p : ℕ) → Run budget (part_of file) ts (got (v ∷ []) h (t ∷ q)) → p + length (t ∷ q) ≡ length ts → Shares (suc p) xs ts
    → (w : Value) → Reads d (suc p) (part_of file) (w ∷ []) xs [] → ⊥
after_end d v h xs ts q t p r e s w i = elim (exact i r (agrees _ _ _ s)) [
  | inl l ↦ omega arith
  | inr f ↦ let c = f.count in let z = f.agree in omega arith
]

pub is_left : (v : Value) (h : ℕ) (ts q : List Lexeme) (t : Lexeme) → Run budget (part_of file) ts (got (v ∷ []) h (t ∷ q)) → IsFault ts (length ts - length (t ∷ q)) Bad
is_left v h ts q t r =
    let g = sound r in let s = swap (weaken (g.read (length ts)) budget (length ts) g.low (omega arith)) in
    let l = length-append s.pre (t ∷ q) in let n = ap length s.eq in
    let e : length s.pre + length (t ∷ q) ≡ length ts = omega arith in let place : length s.pre ≡ length ts - length (t ∷ q) = omega arith in
    subst (λ p. IsFault ts p Bad) place (record {
      before = (s.pre ++ [], shares_at s.pre (t ∷ q) ts [] s.eq, (v, weaken (s.again [] (inr refl)) budget (length s.pre) (omega arith) (omega arith)));
      after = λ xs k i. after_end budget v h xs ts q t (length s.pre) r e k i.0 i.1;
      kind = λ xs k i. let x = enough i.1 in after_end x.0 v h xs ts q t (length s.pre) r e k i.0 (x.1 (suc (length s.pre)));
    })

-- What a run gives to the end is the file's tree.
pub is_tree : (tree : Statements ℕ) (h : ℕ) (ts : List Lexeme) → Run budget (part_of file) ts (got (stmts_of tree ∷ []) h []) → IsTree tree ts
is_tree tree h ts r = let g = sound r in weaken (g.read (length ts)) budget (length ts) g.low (omega arith)

agree_end : (m : ℕ) (out : List Lexeme) → Agree m [] out → 0 < m → out ≡ []
agree_end m [] a l = refl
agree_end m (t ∷ out) a l = absurd (omega arith)

same_shared : (ts : List Lexeme) → Agree (suc (length ts)) ts ts
same_shared ts = agrees _ ts ts refl

-- A file that has a tree is read as that tree.
pub finds : (tree : Statements ℕ) (ts : List Lexeme) (o : Outcome) → IsTree tree ts → Run budget (part_of file) ts o → (h : ℕ) × (o ≡ got (stmts_of tree ∷ []) h [])
finds tree ts (got vs h rest) i r = elim (exact (all_count i (suc (length ts)) (omega arith)) r (same_shared ts)) [
  | inl l ↦ absurd (omega arith)
  | inr f ↦ let e = agree_end _ rest f.agree (let w = f.within in omega arith) in let v = f.values in (h, cc)
]
finds tree ts (fault Bad rest) i r = let l = exact (all_count i (suc (length ts)) (omega arith)) r (same_shared ts) in absurd (omega arith)
finds tree ts (fault Deep rest) i r = let l = exact (all_count i (suc (length ts)) (omega arith)) r (same_shared ts) (omega arith) in absurd (omega arith)
