-- What the loops of the reader keep, and how much is left where a symbol comes next.
use Rattle.std.proofs.Common.{◌≡◌, ℕ, suc, ◌+◌, ◌-◌, ◌*◌, ◌<◌, ◌≤◌, min, max, Bool, true, false, if◌then◌else◌, List, [], ◌∷◌, ◌++◌, length, Some, None, Result, Ok, Err, IfOk, IfErr, refl, ap, sym, ◌∙◌, subst, append_assoc, arith}
use Rattle.std.proofs.lemmas.List.{append-nil}
use Rattle.php_grammar.specs.declared.part.Part.{Part}
use Rattle.php_grammar.specs.declared.part.Symbol.{Symbol}
use Rattle.php_grammar.specs.declared.part.Symbol.TheVariants.{Tok as tok, Sub as sub}
use Rattle.php_grammar.specs.declared.part.Rule.{Rule}
use Rattle.php_grammar.specs.declared.lexeme.Lexeme.{Lexeme}
use Rattle.php_grammar.specs.Values.{Value}
use Rattle.php_grammar.specs.Grammar.{operand, steps, goes_on, choose, weight}
use Rattle.php_grammar.specs.Reads.{peek}
use Rattle.php_grammar.specs.Reach.{takes, reach, lead}
use Rattle.php_reading.specs.declared.stop.Stop.{Stop}
use Rattle.php_reading.specs.declared.waiting.Waiting.{Waiting}
use Rattle.php_reading.specs.declared.waiting.Waiting.TheVariants.{Tail, Floor}
use Rattle.php_reading.specs.Stack.{values_after, below}
use Rattle.php_pieces.specs.Stacks.{reduced, linked_on}
use Rattle.php_reading.specs.Fronts.{opening, between, closing, front}
use Rattle.php_reading.specs.Reading.{before_part, before_all, HasRead, HasStopped, HasReadAll, HasStoppedIn, GoesOn}
use Rattle.php_reading.proofs.Symbols.{none_read, both_read, part_read, part_stopped, then_stopped, stopped_then}
use Rattle.php_reading.proofs.Levels.{level_chain, steps_stopped}
use Rattle.php_reading.proofs.Rules.{begins_on, read_into, goes_into, made_into, front_stopped, tail_nearer}

abbrev pub before_symbol : List Lexeme → Symbol → ℕ
before_symbol ts (tok kind) = 512 * length ts
before_symbol ts (sub a) = before_part ts a + 6

-- a front of the symbols is read
pub record Among (d : ℕ) (p : List Symbol) (ts : List Lexeme) (vs : List Value) (low : ℕ) (ts' : List Lexeme) (vs' : List Value) (rest : List Symbol) : Type 0 where
  pub read : List Symbol
  pub parted : p ≡ read ++ rest
  pub all : HasReadAll d read ts vs low ts' vs'

-- a front of a part is read, and the rules that wait stand above the floor
pub record Down (d0 : ℕ) (a0 : Part) (ts0 : List Lexeme) (vs0 : List Value) (ws0 : List Waiting) (d : ℕ) (a : Part) (low : ℕ) (ts : List Lexeme) (vs : List Value) (ws : List Waiting) : Type 0 where
  pub on : GoesOn d0 a0 ts0 vs0 d a low ts vs ws
  pub floor : below ws ≡ ws0
  pub plain : operand a ≡ None
  pub near : before_part ts a ≤ before_part ts0 a0

-- ---- symbols

pub among_none : (d : ℕ) (p : List Symbol) (ts : List Lexeme) (vs : List Value) → Among d p ts vs d ts vs p
among_none d p ts vs = record { read = []; parted = refl; all = none_read d ts vs }

pub among_more : {d : ℕ} {p : List Symbol} {ts : List Lexeme} {vs : List Value} {low : ℕ} {ts' : List Lexeme} {vs' : List Value} {rest : List Symbol}
    (s : Symbol) (others : List Symbol) {low' : ℕ} {ts'' : List Lexeme} {vs'' : List Value} (low'' : ℕ)
    → Among d p ts vs low ts' vs' rest → rest ≡ s ∷ others → HasReadAll d (s ∷ []) ts' vs' low' ts'' vs'' → low'' ≡ min low' low → Among d p ts vs low'' ts'' vs'' others
among_more {d = d} {ts = ts} {vs = vs} {low = low} s others {low' = low'} {ts'' = ts''} {vs'' = vs''} low'' x e y m =
    let same : min low low' ≡ low'' = omega arith in
    record {
      read = x.read ++ s ∷ [];
      parted = x.parted ∙ (ap (λ r. x.read ++ r) e ∙ sym (append_assoc x.read (s ∷ []) others));
      all = subst (λ i. HasReadAll d (x.read ++ s ∷ []) ts vs i ts'' vs'') same (both_read x.all y);
    }

pub among_stopped : {d : ℕ} {p : List Symbol} {ts : List Lexeme} {vs : List Value} {low : ℕ} {ts' : List Lexeme} {vs' : List Value} {rest : List Symbol}
    (s : Symbol) (others : List Symbol) {ts'' : List Lexeme} (why : Stop)
    → Among d p ts vs low ts' vs' rest → rest ≡ s ∷ others → HasStoppedIn d (s ∷ []) ts' why ts'' → HasStoppedIn d p ts why ts''
among_stopped {d = d} {ts = ts} s others {ts'' = ts''} why x e y =
    let same : (x.read ++ s ∷ []) ++ others ≡ _ = append_assoc x.read (s ∷ []) others ∙ sym (x.parted ∙ ap (λ r. x.read ++ r) e) in
    subst (λ p. HasStoppedIn d p ts why ts'') same (stopped_then others why (then_stopped why x.all y))

pub among_all : {d : ℕ} {p : List Symbol} {ts : List Lexeme} {vs : List Value} {low : ℕ} {ts' : List Lexeme} {vs' : List Value} {rest : List Symbol}
    → Among d p ts vs low ts' vs' rest → rest ≡ [] → HasReadAll d p ts vs low ts' vs'
among_all {d = d} {ts = ts} {vs = vs} {low = low} {ts' = ts'} {vs' = vs'} x e =
    let same : x.read ≡ _ = sym (x.parted ∙ (ap (λ r. x.read ++ r) e ∙ append-nil x.read)) in subst (λ p. HasReadAll d p ts vs low ts' vs') same x.all

-- a symbol is nearer than the symbols that it begins
symbol_near_by : (b : Bool) (n k m : ℕ) → 512 * n + 8 * k + 6 < 512 * n + 8 * (if b then suc k else max (suc k) m) + 1
symbol_near_by true n k m = omega arith
symbol_near_by false n k m = omega arith

pub symbol_near : (ts : List Lexeme) (s : Symbol) (others : List Symbol) → before_symbol ts s < before_all ts (s ∷ others) + 1
symbol_near ts (tok kind) others = omega arith
symbol_near ts (sub a) others = symbol_near_by (takes a) (length ts) (reach a) (lead others)

pub among_near : {d : ℕ} {p : List Symbol} {ts : List Lexeme} {vs : List Value} {low : ℕ} {ts' : List Lexeme} {vs' : List Value} {rest : List Symbol} (s : Symbol) (others : List Symbol)
    → Among d p ts vs low ts' vs' rest → rest ≡ s ∷ others → before_symbol ts' s < before_all ts p + 1
among_near {p = p} {ts = ts} {ts' = ts'} {rest = rest} s others x e =
    let n = symbol_near ts' s others in
    let m : before_all ts' (s ∷ others) ≤ before_all ts p = subst (λ q. before_all ts' (s ∷ others) ≤ before_all ts q) (sym (x.parted ∙ ap (λ r. x.read ++ r) e)) (x.all.nearer (s ∷ others)) in
    omega arith

-- ---- the front of a rule

pub front_read : {d : ℕ} (r : Rule) {ts : List Lexeme} {vs : List Value} {low : ℕ} {ts' : List Lexeme} {vs' : List Value} (p : List Symbol) {low' : ℕ} {ts'' : List Lexeme} {vs'' : List Value} (low'' : ℕ)
    → HasReadAll d (opening r) ts vs low ts' vs' → p ≡ between r → HasReadAll d p ts' vs' low' ts'' vs'' → low'' ≡ min low' low → HasReadAll d (front r) ts vs low'' ts'' vs''
front_read {d = d} r {ts = ts} {vs = vs} {low = low} {ts' = ts'} {vs' = vs'} p {low' = low'} {ts'' = ts''} {vs'' = vs''} low'' x e y m =
    let same : min low low' ≡ low'' = omega arith in
    subst (λ i. HasReadAll d (front r) ts vs i ts'' vs'') same (both_read x (subst (λ q. HasReadAll d q ts' vs' low' ts'' vs'') e y))

pub front_opening_stopped : {d : ℕ} (r : Rule) {ts ts' : List Lexeme} (s : Stop) → HasStoppedIn d (opening r) ts s ts' → HasStoppedIn d (front r) ts s ts'
front_opening_stopped r s x = stopped_then (between r) s x

pub front_then_stopped : {d : ℕ} (r : Rule) {ts : List Lexeme} {vs : List Value} {low : ℕ} {ts' : List Lexeme} {vs' : List Value} (p : List Symbol) {ts'' : List Lexeme} (s : Stop)
    → HasReadAll d (opening r) ts vs low ts' vs' → p ≡ between r → HasStoppedIn d p ts' s ts'' → HasStoppedIn d (front r) ts s ts''
front_then_stopped {d = d} r {ts' = ts'} p {ts'' = ts''} s x e y = then_stopped s x (subst (λ q. HasStoppedIn d q ts' s ts'') e y)

pub front_near : {d : ℕ} (r : Rule) {ts : List Lexeme} {vs : List Value} {low : ℕ} {ts' : List Lexeme} {vs' : List Value} (p : List Symbol)
    → HasReadAll d (opening r) ts vs low ts' vs' → p ≡ between r → before_all ts' p ≤ before_all ts (front r)
front_near r {ts = ts} {ts' = ts'} p x e = subst (λ q. before_all ts' q ≤ before_all ts (front r)) (sym e) (x.nearer (between r))

-- ---- on the way down

pub down_begins : (d : ℕ) (a : Part) (ts : List Lexeme) (vs : List Value) (ws ws' : List Waiting) → operand a ≡ None → ws' ≡ Floor ∷ ws → Down d a ts vs ws d a d ts vs ws'
down_begins d a ts vs ws ws' o e = subst (λ x. Down d a ts vs ws d a d ts vs x) (sym e) (record { on = begins_on d a ts vs ws; floor = refl; plain = o; near = omega arith })

pub down_stopped : {d0 : ℕ} {a0 : Part} {ts0 : List Lexeme} {vs0 : List Value} {ws0 : List Waiting} {d : ℕ} {a : Part} {low : ℕ} {ts : List Lexeme} {vs : List Value} {ws : List Waiting}
    (r : Rule) (d' : ℕ) {ts' : List Lexeme} (s : Stop) → Down d0 a0 ts0 vs0 ws0 d a low ts vs ws → choose a (peek ts) ≡ Some r → d' ≡ d - weight r
    → HasStoppedIn d' (front r) ts s ts' → HasStopped d0 a0 ts0 s ts'
down_stopped {ts = ts} r d' {ts' = ts'} s x c e y = front_stopped r s x.on c (subst (λ i. HasStoppedIn i (front r) ts s ts') e y)

pub down_made : {d0 : ℕ} {a0 : Part} {ts0 : List Lexeme} {vs0 : List Value} {ws0 : List Waiting} {d : ℕ} {a : Part} {low : ℕ} {ts : List Lexeme} {vs : List Value} {ws : List Waiting}
    (r : Rule) (d' : ℕ) {low' : ℕ} {ts' : List Lexeme} {vs' : List Value} (low'' : ℕ) (ts'' : List Lexeme) (vs'' : List Value) (ws'' : List Waiting)
    → Down d0 a0 ts0 vs0 ws0 d a low ts vs ws → choose a (peek ts) ≡ Some r → d' ≡ d - weight r → HasReadAll d' (front r) ts vs low' ts' vs' → closing r ≡ None
    → low'' ≡ min low' low → ts'' ≡ ts' → vs'' ≡ reduced r vs' → ws'' ≡ ws → HasRead d0 a0 ts0 vs0 low'' ts'' (values_after ws'' vs'')
down_made {d0 = d0} {a0 = a0} {ts0 = ts0} {vs0 = vs0} {low = low} {ts = ts} {vs = vs} {ws = ws} r d' {low' = low'} {ts' = ts'} {vs' = vs'} low'' ts'' vs'' ws'' x c e y n m t v w =
    let same : min low low' ≡ low'' = omega arith in
    rw (t, v, w) (subst (λ i. HasRead d0 a0 ts0 vs0 i ts' (values_after ws (reduced r vs'))) same (made_into r x.on c (subst (λ i. HasReadAll i (front r) ts vs low' ts' vs') e y) n))

pub down_into : {d0 : ℕ} {a0 : Part} {ts0 : List Lexeme} {vs0 : List Value} {ws0 : List Waiting} {d : ℕ} {a : Part} {low : ℕ} {ts : List Lexeme} {vs : List Value} {ws : List Waiting}
    (r : Rule) (d' : ℕ) {low' : ℕ} {ts' : List Lexeme} {vs' : List Value} (b : Part) (low'' : ℕ) (ws'' : List Waiting)
    → Down d0 a0 ts0 vs0 ws0 d a low ts vs ws → choose a (peek ts) ≡ Some r → d' ≡ d - weight r → HasReadAll d' (front r) ts vs low' ts' vs' → closing r ≡ Some b
    → low'' ≡ min low' low → ws'' ≡ Tail r ∷ ws → GoesOn d0 a0 ts0 vs0 d' b low'' ts' vs' ws''
down_into {d0 = d0} {a0 = a0} {ts0 = ts0} {vs0 = vs0} {d = d} {low = low} {ts = ts} {vs = vs} {ws = ws} r d' {low' = low'} {ts' = ts'} {vs' = vs'} b low'' ws'' x c e y n m w =
    let same : min low low' ≡ low'' = omega arith in
    rw (e, w) (subst (λ i. GoesOn d0 a0 ts0 vs0 (d - weight r) b i ts' vs' (Tail r ∷ ws)) same (goes_into r x.on c (subst (λ i. HasReadAll i (front r) ts vs low' ts' vs') e y) n))

pub down_nearer : {d0 : ℕ} {a0 : Part} {ts0 : List Lexeme} {vs0 : List Value} {ws0 : List Waiting} {d : ℕ} {a : Part} {low : ℕ} {ts : List Lexeme} {vs : List Value} {ws : List Waiting}
    (r : Rule) {d' low' : ℕ} {ts' : List Lexeme} {vs' : List Value} (b : Part)
    → Down d0 a0 ts0 vs0 ws0 d a low ts vs ws → choose a (peek ts) ≡ Some r → HasReadAll d' (front r) ts vs low' ts' vs' → closing r ≡ Some b
    → before_part ts' b + 8 ≤ before_part ts a
down_nearer {a = a} r b x c y n = tail_nearer a b r c y n

pub down_next : {d0 : ℕ} {a0 : Part} {ts0 : List Lexeme} {vs0 : List Value} {ws0 : List Waiting} {d : ℕ} {a : Part} {low : ℕ} {ts : List Lexeme} {vs : List Value} {ws : List Waiting}
    (r : Rule) (d' : ℕ) {low' : ℕ} {ts' : List Lexeme} {vs' : List Value} (b : Part) (low'' : ℕ) (ws'' : List Waiting)
    → Down d0 a0 ts0 vs0 ws0 d a low ts vs ws → choose a (peek ts) ≡ Some r → d' ≡ d - weight r → HasReadAll d' (front r) ts vs low' ts' vs' → closing r ≡ Some b
    → low'' ≡ min low' low → ws'' ≡ Tail r ∷ ws → operand b ≡ None → Down d0 a0 ts0 vs0 ws0 d' b low'' ts' vs' ws''
down_next {a = a} {ws = ws} r d' b low'' ws'' x c e y n m w o = record {
  on = down_into r d' b low'' ws'' x c e y n m w;
  floor = rw w x.floor;
  plain = o;
  near = let k = x.near in let l = tail_nearer a b r c y n in omega arith;
}

pub down_read : {d0 : ℕ} {a0 : Part} {ts0 : List Lexeme} {vs0 : List Value} {d : ℕ} {a : Part} {low : ℕ} {ts : List Lexeme} {vs : List Value} {ws : List Waiting}
    {low' : ℕ} {ts' : List Lexeme} {vs' : List Value} (low'' : ℕ) (ws'' : List Waiting)
    → GoesOn d0 a0 ts0 vs0 d a low ts vs ws → HasRead d a ts vs low' ts' vs' → low'' ≡ min low' low → ws'' ≡ ws → HasRead d0 a0 ts0 vs0 low'' ts' (values_after ws'' vs')
down_read {d0 = d0} {a0 = a0} {ts0 = ts0} {vs0 = vs0} {low = low} {ws = ws} {low' = low'} {ts' = ts'} {vs' = vs'} low'' ws'' g x m w =
    let same : min low low' ≡ low'' = omega arith in
    rw w (subst (λ i. HasRead d0 a0 ts0 vs0 i ts' (values_after ws vs')) same (read_into g x))

-- ---- levels

pub level_read : {d low : ℕ} {a b : Part} {ts mid rest : List Lexeme} {vs vs' vs'' : List Value} {low' : ℕ} (e : ℕ) (s : Part) (low'' : ℕ) (ts'' : List Lexeme) (us : List Value)
    → operand a ≡ Some b → HasRead d b ts vs low mid vs' → goes_on a (peek mid) ≡ true → 0 < low → e ≡ d - 1 → s ≡ steps a
    → HasRead e s mid vs' low' rest vs'' → low'' ≡ min low' (low - 1) → ts'' ≡ rest → us ≡ linked_on vs'' → HasRead d a ts vs low'' ts'' us
level_read {d = d} {a = a} {mid = mid} {rest = rest} {vs' = vs'} {vs'' = vs''} {low' = low'} e s low'' ts'' us o x y l k q z m t v =
    let one : HasRead (d - 1) s mid vs' low' rest vs'' = subst (λ i. HasRead i s mid vs' low' rest vs'') k z in
    let two : HasRead (d - 1) (steps a) mid vs' low' rest vs'' = subst (λ b. HasRead (d - 1) b mid vs' low' rest vs'') q one in
    let all = level_chain o x y l two in
    rw (m, t, v) all

pub level_broken : {d low : ℕ} {a b : Part} {ts mid rest : List Lexeme} {vs vs' : List Value} (s : Part) (why : Stop)
    → operand a ≡ Some b → HasRead d b ts vs low mid vs' → goes_on a (peek mid) ≡ true → 0 < low → s ≡ steps a → HasStopped (d - 1) s mid why rest → HasStopped d a ts why rest
level_broken {d = d} {mid = mid} {rest = rest} s why o x y l q z = steps_stopped why o x y l (subst (λ b. HasStopped (d - 1) b mid why rest) q z)

-- ---- one symbol

pub sub_ok : (d : ℕ) (a : Part) (ts : List Lexeme) (vs : List Value) (ts' : List Lexeme) (vs' : List Value) (s : Symbol) (r : Result ℕ Stop)
    → s ≡ sub a → IfOk r (λ low. HasRead d a ts vs low ts' vs') → IfOk r (λ low. HasReadAll d (s ∷ []) ts vs low ts' vs')
sub_ok d a ts vs ts' vs' s (Ok low) e x = rw e (part_read x)
sub_ok d a ts vs ts' vs' s (Err why) e x = tt

pub sub_err : (d : ℕ) (a : Part) (ts ts' : List Lexeme) (s : Symbol) (r : Result ℕ Stop)
    → s ≡ sub a → IfErr r (λ why. HasStopped d a ts why ts') → IfErr r (λ why. HasStoppedIn d (s ∷ []) ts why ts')
sub_err d a ts ts' s (Ok low) e x = tt
sub_err d a ts ts' s (Err why) e x = rw e (part_stopped why x)
