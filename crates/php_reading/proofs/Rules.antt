-- A part is read by a rule: its front, and then its last part, while the rule waits.
use Rattle.std.proofs.Common.{◌≡◌, ℕ, suc, ◌+◌, ◌-◌, ◌≤◌, max, min, Bool, true, false, if◌then◌else◌, List, [], ◌∷◌, ◌++◌, Some, None, refl, sym, ◌∙◌, subst, arith}
use Rattle.std.proofs.lemmas.List.{append-nil}
use Rattle.php_grammar.specs.declared.token.Fault.TheVariants.{Bad}
use Rattle.php_grammar.specs.declared.part.Part.{Part}
use Rattle.php_grammar.specs.declared.part.Symbol.{Symbol}
use Rattle.php_grammar.specs.declared.part.Symbol.TheVariants.{Tok as tok, Sub as sub}
use Rattle.php_grammar.specs.declared.part.Rule.{Rule}
use Rattle.php_grammar.specs.declared.lexeme.Lexeme.{Lexeme}
use Rattle.php_grammar.specs.Values.{Value}
use Rattle.php_grammar.specs.Grammar.{operand, choose, production, weight}
use Rattle.php_grammar.specs.Act.{act}
use Rattle.php_grammar.specs.Reads.{peek, seq}
use Rattle.php_grammar.specs.Run.{got, fault, Run, rule, none, done}
use Rattle.php_grammar.specs.Reach.{takes, reach, lead}
use Rattle.php_grammar.proofs.Reach.{rule_led}
use Rattle.php_reading.specs.declared.stop.Stop.{Stop}
use Rattle.php_reading.specs.declared.stop.Stop.TheVariants.{At, Memory}
use Rattle.php_reading.specs.declared.waiting.Waiting.{Waiting}
use Rattle.php_reading.specs.declared.waiting.Waiting.TheVariants.{Tail, Floor}
use Rattle.php_pieces.specs.Stacks.{reduced}
use Rattle.php_pieces.proofs.Stacks.{reduced_whole}
use Rattle.php_reading.specs.Stack.{values_after}
use Rattle.php_reading.specs.Fronts.{as_part, closing, front}
use Rattle.php_reading.specs.Reading.{before_part, before_all, HasRead, HasStopped, HasReadAll, HasStoppedIn, GoesOn}
use Rattle.php_reading.proofs.Split.{whole}
use Rattle.php_reading.proofs.Symbols.{part_read, part_stopped, both_read, then_stopped, stopped_then}

-- a rule that has been read whole
pub rule_read : {d low : ℕ} {a : Part} (r : Rule) {ts rest : List Lexeme} {vs vs' : List Value}
    → choose a (peek ts) ≡ Some r → HasReadAll (d - weight r) (production r) ts vs low rest vs' → HasRead d a ts vs low rest (reduced r vs')
rule_read {d = d} {a = a} r {ts = ts} {rest = rest} {vs = vs} c x = record {
  height = weight r + x.height;
  value = act r x.values;
  run =
      let u = x.run [] (got [] 0 rest) done in
      let v = subst (λ p. Run (d - weight r) (seq p) ts (got (x.values ++ []) (max x.height 0) rest)) (append-nil (production r)) u in
      let h : max x.height 0 ≡ x.height = omega arith in
      let w = subst (λ i. Run (d - weight r) (seq (production r)) ts (got (x.values ++ []) i rest)) h v in
      let z = subst (λ us. Run (d - weight r) (seq (production r)) ts (got us x.height rest)) (append-nil x.values) w in
      rule c z;
  on_top = rw x.on_top (reduced_whole r x.values vs x.counts);
  lowest = let e = x.lowest in omega arith;
}

pub rule_stopped : {d : ℕ} {a : Part} (r : Rule) {ts rest : List Lexeme} (s : Stop) → choose a (peek ts) ≡ Some r → HasStoppedIn (d - weight r) (production r) ts s rest → HasStopped d a ts s rest
rule_stopped {d = d} r {ts = ts} {rest = rest} (At f) c x =
    record { why = rule c (subst (λ p. Run (d - weight r) (seq p) ts (fault f rest)) (append-nil (production r)) (x.why [])) }
rule_stopped r Memory c x = record { why = tt }

-- a rule's front and its last part
ends_with : (r : Rule) (b : Part) → closing r ≡ Some b → front r ++ sub b ∷ [] ≡ production r
ends_with r b e = subst (λ o. front r ++ as_part o ≡ production r) e (whole r)

ends_so : (r : Rule) → closing r ≡ None → front r ≡ production r
ends_so r e = sym (append-nil (front r)) ∙ subst (λ o. front r ++ as_part o ≡ production r) e (whole r)

-- ---- while rules wait

pub begins_on : (d : ℕ) (a : Part) (ts : List Lexeme) (vs : List Value) (ws : List Waiting) → GoesOn d a ts vs d a d ts vs (Floor ∷ ws)
begins_on d a ts vs ws = record {
  reads = λ v h rest r. record { height = h; value = v; run = r; on_top = refl; lowest = omega arith };
  stops = λ f rest r. r;
}

pub read_into : {d0 : ℕ} {a0 : Part} {ts0 : List Lexeme} {vs0 : List Value} {d : ℕ} {a : Part} {low : ℕ} {ts : List Lexeme} {vs : List Value} {ws : List Waiting} {low' : ℕ} {ts' : List Lexeme} {vs' : List Value}
    → GoesOn d0 a0 ts0 vs0 d a low ts vs ws → HasRead d a ts vs low' ts' vs' → HasRead d0 a0 ts0 vs0 (min low low') ts' (values_after ws vs')
read_into {ws = ws} {ts' = ts'} g x = let z = g.reads x.value x.height ts' x.run in record {
  height = z.height;
  value = z.value;
  run = z.run;
  on_top = rw x.on_top z.on_top;
  lowest = let e = x.lowest in let f = z.lowest in omega arith;
}

pub stopped_into : {d0 : ℕ} {a0 : Part} {ts0 : List Lexeme} {vs0 : List Value} {d : ℕ} {a : Part} {low : ℕ} {ts : List Lexeme} {vs : List Value} {ws : List Waiting} (s : Stop) {ts' : List Lexeme}
    → GoesOn d0 a0 ts0 vs0 d a low ts vs ws → HasStopped d a ts s ts' → HasStopped d0 a0 ts0 s ts'
stopped_into (At f) {ts' = ts'} g x = record { why = g.stops f ts' x.why }
stopped_into Memory g x = record { why = tt }

-- the front of a rule is read, and its last part comes next
closes_front : {d low low' : ℕ} {a b : Part} (r : Rule) {ts mid rest : List Lexeme} {vs vs' vs'' : List Value}
    → choose a (peek ts) ≡ Some r → HasReadAll (d - weight r) (front r) ts vs low mid vs' → closing r ≡ Some b → HasRead (d - weight r) b mid vs' low' rest vs''
    → HasRead d a ts vs (min low low') rest (reduced r vs'')
closes_front {d = d} {low = low} {low' = low'} {b = b} r {ts = ts} {rest = rest} {vs = vs} {vs'' = vs''} c x e y =
    rule_read r c (subst (λ p. HasReadAll (d - weight r) p ts vs (min low low') rest vs'') (ends_with r b e) (both_read x (part_read y)))

closes_stopped : {d low : ℕ} {a b : Part} (r : Rule) {ts mid rest : List Lexeme} {vs vs' : List Value} (s : Stop)
    → choose a (peek ts) ≡ Some r → HasReadAll (d - weight r) (front r) ts vs low mid vs' → closing r ≡ Some b → HasStopped (d - weight r) b mid s rest → HasStopped d a ts s rest
closes_stopped {d = d} {b = b} r {ts = ts} {rest = rest} s c x e y =
    rule_stopped r s c (subst (λ p. HasStoppedIn (d - weight r) p ts s rest) (ends_with r b e) (then_stopped s x (part_stopped s y)))

pub goes_into : {d0 : ℕ} {a0 : Part} {ts0 : List Lexeme} {vs0 : List Value} {d : ℕ} {a : Part} {low : ℕ} {ts : List Lexeme} {vs : List Value} {ws : List Waiting} {low' : ℕ} {b : Part} (r : Rule) {ts' : List Lexeme} {vs' : List Value}
    → GoesOn d0 a0 ts0 vs0 d a low ts vs ws → choose a (peek ts) ≡ Some r → HasReadAll (d - weight r) (front r) ts vs low' ts' vs' → closing r ≡ Some b
    → GoesOn d0 a0 ts0 vs0 (d - weight r) b (min low low') ts' vs' (Tail r ∷ ws)
goes_into {d0 = d0} {a0 = a0} {ts0 = ts0} {vs0 = vs0} {d = d} {low = low} {ws = ws} {low' = low'} r {vs' = vs'} g c x e = record {
  reads = λ v h rest z.
      let one : HasRead (d - weight r) _ _ vs' (d - weight r - h) rest (v ∷ vs') = record { height = h; value = v; run = z; on_top = refl; lowest = refl } in
      let all = read_into g (closes_front r c x e one) in
      let same : min low (min low' (d - weight r - h)) ≡ min (min low low') (d - weight r - h) = omega arith in
      subst (λ i. HasRead d0 a0 ts0 vs0 i rest (values_after ws (reduced r (v ∷ vs')))) same all;
  stops = λ f rest z.
      let one : HasStopped (d - weight r) _ _ (At f) rest = record { why = z } in
      (stopped_into (At f) g (closes_stopped r (At f) c x e one)).why;
}

-- a rule without a last part is read whole
pub made_into : {d0 : ℕ} {a0 : Part} {ts0 : List Lexeme} {vs0 : List Value} {d : ℕ} {a : Part} {low : ℕ} {ts : List Lexeme} {vs : List Value} {ws : List Waiting} {low' : ℕ} (r : Rule) {ts' : List Lexeme} {vs' : List Value}
    → GoesOn d0 a0 ts0 vs0 d a low ts vs ws → choose a (peek ts) ≡ Some r → HasReadAll (d - weight r) (front r) ts vs low' ts' vs' → closing r ≡ None
    → HasRead d0 a0 ts0 vs0 (min low low') ts' (values_after ws (reduced r vs'))
made_into {d = d} {ts = ts} {vs = vs} {low' = low'} r {ts' = ts'} {vs' = vs'} g c x e =
    read_into g (rule_read r c (subst (λ p. HasReadAll (d - weight r) p ts vs low' ts' vs') (ends_so r e) x))

-- the front is not read
pub front_stopped : {d0 : ℕ} {a0 : Part} {ts0 : List Lexeme} {vs0 : List Value} {d : ℕ} {a : Part} {low : ℕ} {ts : List Lexeme} {vs : List Value} {ws : List Waiting} (r : Rule) (s : Stop) {ts' : List Lexeme}
    → GoesOn d0 a0 ts0 vs0 d a low ts vs ws → choose a (peek ts) ≡ Some r → HasStoppedIn (d - weight r) (front r) ts s ts' → HasStopped d0 a0 ts0 s ts'
front_stopped {d = d} {ts = ts} r s {ts' = ts'} g c x =
    stopped_into s g (rule_stopped r s c (subst (λ p. HasStoppedIn (d - weight r) p ts s ts') (whole r) (stopped_then (as_part (closing r)) s x)))

-- no rule begins so
pub unruled : {d0 : ℕ} {a0 : Part} {ts0 : List Lexeme} {vs0 : List Value} {d : ℕ} {a : Part} {low : ℕ} {ts : List Lexeme} {vs : List Value} {ws : List Waiting}
    → GoesOn d0 a0 ts0 vs0 d a low ts vs ws → operand a ≡ None → choose a (peek ts) ≡ None → HasStopped d0 a0 ts0 (At Bad) ts
unruled g o c = stopped_into (At Bad) g (record { why = none o c })

-- ---- how much is left

lead_one : (b : Bool) (m : ℕ) → suc m ≤ (if b then suc m else max (suc m) 0)
lead_one true m = omega arith
lead_one false m = omega arith

pub tail_nearer : {d low : ℕ} (a b : Part) (r : Rule) {ts rest : List Lexeme} {vs vs' : List Value} → choose a (peek ts) ≡ Some r → HasReadAll d (front r) ts vs low rest vs' → closing r ≡ Some b
    → before_part rest b + 8 ≤ before_part ts a
tail_nearer a b r {ts = ts} {rest = rest} c x e =
    let n : before_all rest (sub b ∷ []) ≤ before_all ts (production r) = subst (λ p. before_all rest (sub b ∷ []) ≤ before_all ts p) (ends_with r b e) (x.nearer (sub b ∷ [])) in
    let l = rule_led a _ r c in let m = lead_one (takes b) (reach b) in omega arith

more_by : (b : Bool) (m n k : ℕ) → n ≤ k → (if b then suc m else max (suc m) n) ≤ (if b then suc m else max (suc m) k)
more_by true m n k l = omega arith
more_by false m n k l = omega arith

lead_more : (p q : List Symbol) → lead p ≤ lead (p ++ q)
lead_more [] q = omega arith
lead_more (tok k ∷ p) q = omega arith
lead_more (sub a ∷ p) q = more_by (takes a) (reach a) (lead p) (lead (p ++ q)) (lead_more p q)

pub front_nearer : (a : Part) (r : Rule) (ts : List Lexeme) → choose a (peek ts) ≡ Some r → before_all ts (front r) ≤ before_part ts a
front_nearer a r ts c =
    let l = rule_led a _ r c in
    let m : lead (front r) ≤ lead (production r) = subst (λ p. lead (front r) ≤ lead p) (whole r) (lead_more (front r) (as_part (closing r))) in omega arith
