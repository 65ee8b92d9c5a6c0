-- From the operand that is read first outwards, over levels that do not go on.
use Rattle.std.proofs.Common.{◌≡◌, ℕ, zero, suc, ◌+◌, ◌-◌, ◌<◌, ◌≤◌, max, min, true, false, ◌==◌, if◌then◌else◌, List, [], ◌∷◌, Some, None, Result, Ok, Err, IfOk, IfErr, ◌⊎◌, inl, inr, refl, sym, ◌∙◌, ap, subst, arith}
use Rattle.std.proofs.lemmas.Bool.{eqb-true}
use Rattle.php_grammar.specs.declared.token.Kind.{Kind}
use Rattle.php_grammar.specs.declared.token.Kind.TheVariants as k
use Rattle.php_grammar.specs.declared.token.Fault.TheVariants.{Deep}
use Rattle.php_grammar.specs.declared.lexeme.Lexeme.{Lexeme}
use Rattle.php_grammar.specs.Kinds.{code}
use Rattle.php_grammar.specs.declared.part.Context.TheVariants.{InFull as in_full}
use Rattle.php_grammar.specs.declared.part.Level.{Level}
use Rattle.php_grammar.specs.declared.part.Level.TheVariants.{LowOr as low_or, LowXor as low_xor, LowAnd as low_and, Choice as choice, Coalescing as coalescing, Either as either, Both as both, Equality as equality, Order as order, Sum as sum, Product as product, Instance as instance}
use Rattle.php_grammar.specs.declared.part.Part.{Part}
use Rattle.php_grammar.specs.declared.part.Part.TheVariants.{Level as level, Operators as operators, UnaryPart as unary_part, Prim as prim}
use Rattle.php_grammar.specs.declared.part.Rule.{Rule}
use Rattle.php_grammar.specs.declared.part.Rule.TheVariants.{NoPrint as no_print, NoNot as no_not, NoUnary as no_unary}
use Rattle.php_grammar.specs.declared.part.Symbol.TheVariants.{Sub as sub}
use Rattle.php_grammar.specs.Grammar.{operand, goes_on, choose, steps, production, weight}
use Rattle.php_grammar.specs.Values.{Value}
use Rattle.php_grammar.specs.Act.{act}
use Rattle.php_grammar.specs.Reads.{peek, part_of, seq}
use Rattle.php_grammar.specs.Run.{Run, got, fault, rule, part, part_fault, done}
use Rattle.php_grammar.specs.Reach.{reach}
use Rattle.php_grammar.proofs.Codes.{same_kind}
use Rattle.php_grammar.proofs.Facts.{solid_level, either as or_false}
use Rattle.php_grammar.proofs.Closing.{solid_reads}
use Rattle.php_grammar.proofs.Sound.{sound}
use Rattle.php_grammar.proofs.Bounds.{low_reach, operand_reach}
use Rattle.php_reading.specs.declared.stop.Stop.{Stop}
use Rattle.php_reading.specs.declared.stop.Stop.TheVariants.{At, Memory}
use Rattle.php_reading.specs.Reading.{before_part, HasRead, HasStopped}
use Rattle.php_reading.proofs.Levels.{level_alone, level_chain, level_deep, level_stopped, steps_stopped}
use Rattle.php_pieces.specs.Stacks.{linked_on}
use Rattle.php_reader.specs.Levels.{rank, outer, inner, beginning, outwards, first_at, level_at, Quiet, GoesOnAt, Plain, IsInmost}

-- ---- numbers

pub rank_low : (l : Level) → rank l ≤ 11
rank_low instance = omega arith
rank_low product = omega arith
rank_low sum = omega arith
rank_low order = omega arith
rank_low equality = omega arith
rank_low both = omega arith
rank_low either = omega arith
rank_low coalescing = omega arith
rank_low choice = omega arith
rank_low low_and = omega arith
rank_low low_xor = omega arith
rank_low low_or = omega arith

-- the level by its number
level_of : ℕ → Level
level_of zero = instance
level_of (suc n) = outer (level_of n)

level_is : (l : Level) → level_of (rank l) ≡ l
unfolding level_of
level_is instance = refl
level_is product = refl
level_is sum = refl
level_is order = refl
level_is equality = refl
level_is both = refl
level_is either = refl
level_is coalescing = refl
level_is choice = refl
level_is low_and = refl
level_is low_xor = refl
level_is low_or = refl

same_level : (l m : Level) → rank l ≡ rank m → l ≡ m
same_level l m e = sym (level_is l) ∙ (ap level_of e ∙ level_is m)

pub rank_outer : (l : Level) → rank l < 11 → rank (outer l) ≡ suc (rank l)
rank_outer instance h = refl
rank_outer product h = refl
rank_outer sum h = refl
rank_outer order h = refl
rank_outer equality h = refl
rank_outer both h = refl
rank_outer either h = refl
rank_outer coalescing h = refl
rank_outer choice h = refl
rank_outer low_and h = refl
rank_outer low_xor h = refl
rank_outer low_or h = absurd (omega arith)

pub operand_is : (l : Level) → operand (level in_full l) ≡ Some (inner l)
unfolding operand
operand_is instance = refl
operand_is product = refl
operand_is sum = refl
operand_is order = refl
operand_is equality = refl
operand_is both = refl
operand_is either = refl
operand_is coalescing = refl
operand_is choice = refl
operand_is low_and = refl
operand_is low_xor = refl
operand_is low_or = refl

reach_is : (l : Level) → reach (level in_full l) ≡ 2 + rank l + min 1 (rank l) + min 1 (rank l - 8)
unfolding reach
reach_is instance = refl
reach_is product = refl
reach_is sum = refl
reach_is order = refl
reach_is equality = refl
reach_is both = refl
reach_is either = refl
reach_is coalescing = refl
reach_is choice = refl
reach_is low_and = refl
reach_is low_xor = refl
reach_is low_or = refl

pub reach_more : (l m : Level) → rank l ≤ rank m → reach (level in_full l) ≤ reach (level in_full m)
reach_more l m h = let a = reach_is l in let b = reach_is m in omega arith

-- ---- which level goes on

one_row : (j kind : Kind) → (if code j == code kind then true else false) ≡ true → j ≡ kind
one_row j kind h = elim (or_false (code j == code kind)) [
  | inl y ↦ same_kind j kind (eqb-true _ _ y)
  | inr n ↦ absurd (let e : false ≡ true = rw n at h in cc)
]

two_rows : (i j kind : Kind) → (if code i == code kind then true else (if code j == code kind then true else false)) ≡ true → (i ≡ kind) ⊎ (j ≡ kind)
two_rows i j kind h = elim (or_false (code i == code kind)) [
  | inl y ↦ inl (same_kind i kind (eqb-true _ _ y))
  | inr n ↦ inr (one_row j kind (rw n at h))
]

goes_where : (l : Level) (kind : Kind) → goes_on (level in_full l) kind ≡ true → level_at kind ≡ Some l
unfolding goes_on steps level_at
goes_where low_or kind h = subst (λ j. level_at j ≡ Some low_or) (one_row k.Or kind h) refl
goes_where low_xor kind h = subst (λ j. level_at j ≡ Some low_xor) (one_row k.Xor kind h) refl
goes_where low_and kind h = subst (λ j. level_at j ≡ Some low_and) (one_row k.And kind h) refl
goes_where choice kind h = subst (λ j. level_at j ≡ Some choice) (one_row k.Question kind h) refl
goes_where coalescing kind h = subst (λ j. level_at j ≡ Some coalescing) (one_row k.Coalesce kind h) refl
goes_where either kind h = subst (λ j. level_at j ≡ Some either) (one_row k.OrOr kind h) refl
goes_where both kind h = subst (λ j. level_at j ≡ Some both) (one_row k.AndAnd kind h) refl
goes_where equality kind h = subst (λ j. level_at j ≡ Some equality) (one_row k.Equality kind h) refl
goes_where order kind h = subst (λ j. level_at j ≡ Some order) (one_row k.Order kind h) refl
goes_where sum kind h = elim (two_rows k.Sign k.Dot kind h) [
  | inl e ↦ subst (λ j. level_at j ≡ Some sum) e refl
  | inr e ↦ subst (λ j. level_at j ≡ Some sum) e refl
]
goes_where product kind h = subst (λ j. level_at j ≡ Some product) (one_row k.Product kind h) refl
goes_where instance kind h = subst (λ j. level_at j ≡ Some instance) (one_row k.InstanceOf kind h) refl

first_goes : (ls : List Level) (kind : Kind) (l : Level) → first_at ls kind ≡ Some l → goes_on (level in_full l) kind ≡ true
first_goes [] kind l e = absurd cc
first_goes (m ∷ more) kind l e = elim (or_false (goes_on (level in_full m) kind)) [
  | inl y ↦ let s : Some m ≡ Some l = rw y at e in let t : m ≡ l = cc in subst (λ x. goes_on (level in_full x) kind ≡ true) t y
  | inr n ↦ first_goes more kind l (rw n at e)
]

at_goes : (kind : Kind) (l : Level) → level_at kind ≡ Some l → goes_on (level in_full l) kind ≡ true
unfolding level_at
at_goes kind l e = first_goes outwards kind l e

other_quiet : (kind : Kind) (l at : Level) → level_at kind ≡ Some at → (rank l ≡ rank at → ⊥) → goes_on (level in_full l) kind ≡ false
other_quiet kind l at e h = elim (or_false (goes_on (level in_full l) kind)) [
  | inl y ↦ absurd (let s : Some at ≡ Some l = sym e ∙ goes_where l kind y in let t : l ≡ at = cc in h (ap rank t))
  | inr n ↦ n
]

none_goes : (kind : Kind) (l : Level) → level_at kind ≡ None → goes_on (level in_full l) kind ≡ false
none_goes kind l e = elim (or_false (goes_on (level in_full l) kind)) [
  | inl y ↦ absurd (let s : None ≡ Some l = sym e ∙ goes_where l kind y in cc)
  | inr n ↦ n
]

pub quiet_all : (from top : Level) (kind : Kind) → level_at kind ≡ None → Quiet from top kind
quiet_all from top kind e = λ l a b. none_goes kind l e

pub quiet_after : (from top : Level) (kind : Kind) (at : Level) → level_at kind ≡ Some at → rank at < rank from → Quiet from top kind
quiet_after from top kind at e h = λ l a b. other_quiet kind l at e (λ s. omega arith)

pub quiet_below : (from top : Level) (kind : Kind) (at : Level) → level_at kind ≡ Some at → rank top < rank at → Quiet from top kind
quiet_below from top kind at e h = λ l a b. other_quiet kind l at e (λ s. omega arith)

pub goes_at : (from top : Level) (kind : Kind) (at : Level) → level_at kind ≡ Some at → rank from ≤ rank at → rank at ≤ rank top → GoesOnAt from top kind at
goes_at from top kind at e a b = record {
  goes = at_goes kind at e;
  after = a;
  within = b;
  quiet = λ l c d. other_quiet kind l at e (λ s. omega arith);
}

-- ---- over a rule that is not seen

plainly : {d low : ℕ} {a b : Part} (r : Rule) {ts rest : List Lexeme} {vs vs' : List Value}
    → choose a (peek ts) ≡ Some r → production r ≡ sub b ∷ [] → weight r ≡ 0 → ((v : Value) → act r (v ∷ []) ≡ v) → HasRead d b ts vs low rest vs' → HasRead d a ts vs low rest vs'
plainly {d = d} {a = a} {b = b} r {ts = ts} {rest = rest} c p w u x = record {
  height = x.height;
  value = x.value;
  run =
      let one : Run d (seq (sub b ∷ [])) ts (got (x.value ∷ []) (max x.height 0) rest) = part x.run done in
      let h : max x.height 0 ≡ x.height = omega arith in
      let two : Run d (seq (sub b ∷ [])) ts (got (x.value ∷ []) x.height rest) = subst (λ i. Run d (seq (sub b ∷ [])) ts (got (x.value ∷ []) i rest)) h one in
      let three : Run d (seq (production r)) ts (got (x.value ∷ []) x.height rest) = subst (λ q. Run d (seq q) ts (got (x.value ∷ []) x.height rest)) (sym p) two in
      let e : d ≡ d - weight r = omega arith in
      let four : Run (d - weight r) (seq (production r)) ts (got (x.value ∷ []) x.height rest) = subst (λ i. Run i (seq (production r)) ts (got (x.value ∷ []) x.height rest)) e three in
      let five : Run d (part_of a) ts (got (act r (x.value ∷ []) ∷ []) (weight r + x.height) rest) = rule c four in
      let f : weight r + x.height ≡ x.height = omega arith in
      let six : Run d (part_of a) ts (got (act r (x.value ∷ []) ∷ []) x.height rest) = subst (λ i. Run d (part_of a) ts (got (act r (x.value ∷ []) ∷ []) i rest)) f five in
      subst (λ v. Run d (part_of a) ts (got (v ∷ []) x.height rest)) (u x.value) six;
  on_top = x.on_top;
  lowest = x.lowest;
}

plainly_stopped : {d : ℕ} {a b : Part} (r : Rule) {ts rest : List Lexeme} (s : Stop)
    → choose a (peek ts) ≡ Some r → production r ≡ sub b ∷ [] → weight r ≡ 0 → HasStopped d b ts s rest → HasStopped d a ts s rest
plainly_stopped {d = d} {a = a} {b = b} r {ts = ts} {rest = rest} (At f) c p w x = record {
  why =
      let one : Run d (seq (sub b ∷ [])) ts (fault f rest) = part_fault x.why in
      let three : Run d (seq (production r)) ts (fault f rest) = subst (λ q. Run d (seq q) ts (fault f rest)) (sym p) one in
      let e : d ≡ d - weight r = omega arith in
      let four : Run (d - weight r) (seq (production r)) ts (fault f rest) = subst (λ i. Run i (seq (production r)) ts (fault f rest)) e three in
      let five : Run d (part_of a) ts (fault f rest) = rule c four in five;
}
plainly_stopped r Memory c p w x = record { why = tt }

pub unary_read : {d low : ℕ} {ts rest : List Lexeme} {vs vs' : List Value} → choose unary_part (peek ts) ≡ Some no_unary → HasRead d (prim true) ts vs low rest vs' → HasRead d unary_part ts vs low rest vs'
unfolding production weight act
unary_read c x = plainly no_unary c refl refl (λ v. refl) x

pub unary_stopped : {d : ℕ} {ts rest : List Lexeme} (s : Stop) → choose unary_part (peek ts) ≡ Some no_unary → HasStopped d (prim true) ts s rest → HasStopped d unary_part ts s rest
unfolding production weight
unary_stopped s c x = plainly_stopped no_unary s c refl refl x

-- ---- to the next weaker level

up : {d low : ℕ} {ts rest : List Lexeme} {vs vs' : List Value} (l : Level) → Plain l (peek ts) → rank l < 11 → HasRead d (level in_full l) ts vs low rest vs' → HasRead d (inner (outer l)) ts vs low rest vs'
unfolding production weight act
up instance p h x = plainly no_not p refl refl (λ v. refl) x
up product p h x = x
up sum p h x = x
up order p h x = x
up equality p h x = x
up both p h x = x
up either p h x = x
up coalescing p h x = x
up choice p h x = plainly no_print p refl refl (λ v. refl) x
up low_and p h x = x
up low_xor p h x = x
up low_or p h x = absurd (omega arith)

up_stopped : {d : ℕ} {ts rest : List Lexeme} (l : Level) (s : Stop) → Plain l (peek ts) → rank l < 11 → HasStopped d (level in_full l) ts s rest → HasStopped d (inner (outer l)) ts s rest
unfolding production weight
up_stopped instance s p h x = plainly_stopped no_not s p refl refl x
up_stopped product s p h x = x
up_stopped sum s p h x = x
up_stopped order s p h x = x
up_stopped equality s p h x = x
up_stopped both s p h x = x
up_stopped either s p h x = x
up_stopped coalescing s p h x = x
up_stopped choice s p h x = plainly_stopped no_print s p refl refl x
up_stopped low_and s p h x = x
up_stopped low_xor s p h x = x
up_stopped low_or s p h x = absurd (omega arith)

lower : {m n : ℕ} → m ≤ n → (m ≡ n → ⊥) → m < n
lower {m = m} {n = n} h e = omega arith

-- ---- over several levels

abbrev AllPlain : Level → Level → Kind → Type 0
AllPlain from top kind = (l : Level) → rank from ≤ rank l → rank l < rank top → Plain l kind

abbrev AllQuiet : Level → Level → Kind → Type 0
AllQuiet from top kind = (l : Level) → rank from ≤ rank l → rank l < rank top → goes_on (level in_full l) kind ≡ false

read_by : {d low : ℕ} {ts rest : List Lexeme} {vs vs' : List Value} (gap : ℕ) (l top : Level) → rank top ≡ rank l + gap → AllPlain l top (peek ts) → AllQuiet l top (peek rest)
    → HasRead d (inner l) ts vs low rest vs' → HasRead d (inner top) ts vs low rest vs'
read_by {d = d} {low = low} {ts = ts} {rest = rest} {vs = vs} {vs' = vs'} zero l top e p q x =
    let same : l ≡ top = same_level l top (omega arith) in subst (λ m. HasRead d (inner m) ts vs low rest vs') same x
read_by {d = d} {low = low} {ts = ts} {rest = rest} {vs = vs} {vs' = vs'} (suc g) l top e p q x =
    let b = rank_low top in
    let less : rank l < rank top = omega arith in
    let n = rank_outer l (omega arith) in
    let one : HasRead d (level in_full l) ts vs low rest vs' = level_alone (operand_is l) x (q l (omega arith) less) in
    let two : HasRead d (inner (outer l)) ts vs low rest vs' = up l (p l (omega arith) less) (omega arith) one in
    read_by g (outer l) top (omega arith) (λ m i j. p m (omega arith) j) (λ m i j. q m (omega arith) j) two

stopped_by : {d : ℕ} {ts rest : List Lexeme} (gap : ℕ) (l top : Level) (s : Stop) → rank top ≡ rank l + gap → AllPlain l top (peek ts)
    → HasStopped d (inner l) ts s rest → HasStopped d (inner top) ts s rest
stopped_by {d = d} {ts = ts} {rest = rest} zero l top s e p x =
    let same : l ≡ top = same_level l top (omega arith) in subst (λ m. HasStopped d (inner m) ts s rest) same x
stopped_by {d = d} {ts = ts} {rest = rest} (suc g) l top s e p x =
    let b = rank_low top in
    let less : rank l < rank top = omega arith in
    let n = rank_outer l (omega arith) in
    let one : HasStopped d (level in_full l) ts s rest = level_stopped s (operand_is l) x in
    let two : HasStopped d (inner (outer l)) ts s rest = up_stopped l s (p l (omega arith) less) (omega arith) one in
    stopped_by g (outer l) top s (omega arith) (λ m i j. p m (omega arith) j) two

-- what a level stops at, each weaker level stops at
weaker_stopped : {d : ℕ} {ts rest : List Lexeme} (gap : ℕ) (l top : Level) (s : Stop) → rank top ≡ rank l + gap → AllPlain l top (peek ts)
    → HasStopped d (level in_full l) ts s rest → HasStopped d (level in_full top) ts s rest
weaker_stopped {d = d} {ts = ts} {rest = rest} zero l top s e p x =
    let same : l ≡ top = same_level l top (omega arith) in subst (λ m. HasStopped d (level in_full m) ts s rest) same x
weaker_stopped {d = d} {ts = ts} {rest = rest} (suc g) l top s e p x =
    let b = rank_low top in
    let less : rank l < rank top = omega arith in
    let n = rank_outer l (omega arith) in
    let one : HasStopped d (inner (outer l)) ts s rest = up_stopped l s (p l (omega arith) less) (omega arith) x in
    level_stopped s (operand_is top) (stopped_by g (outer l) top s (omega arith) (λ m i j. p m (omega arith) j) one)

-- ---- on the way outwards

-- an operand of the level l is read, where one of the level `top` is wanted
pub record Outwards (d : ℕ) (top : Level) (ts : List Lexeme) (vs : List Value) (l : Level) (low : ℕ) (ts' : List Lexeme) (vs' : List Value) : Type 0 where
  pub within : rank l ≤ rank top
  pub plain : AllPlain l top (peek ts)
  pub read : HasRead d (inner l) ts vs low ts' vs'
  pub low_within : low ≤ d

pub out_never : {d : ℕ} {top : Level} {ts : List Lexeme} {kind : Kind} (l : Level) (a : Part) {ts' : List Lexeme} (s : Stop)
    → kind ≡ peek ts → IsInmost top kind l → a ≡ beginning l → HasStopped d a ts s ts' → HasStopped d (level in_full top) ts s ts'
out_never {d = d} {top = top} {ts = ts} l a {ts' = ts'} s e i b x =
    let h = i.within in
    let one : HasStopped d (inner l) ts s ts' = subst (λ a. HasStopped d a ts s ts') (b ∙ sym i.same) x in
    level_stopped s (operand_is top) (stopped_by (rank top - rank l) l top s (omega arith) (subst (λ k. AllPlain l top k) e i.plain) one)

pub out_quiet : {d : ℕ} {top : Level} {ts : List Lexeme} {vs : List Value} {l : Level} {low : ℕ} {ts' : List Lexeme} {vs' : List Value}
    (kind : Kind) → Outwards d top ts vs l low ts' vs' → kind ≡ peek ts' → Quiet l top kind → HasRead d (level in_full top) ts vs low ts' vs'
out_quiet {top = top} {l = l} kind x e p =
    let q = subst (λ k. Quiet l top k) e p in
    let h = x.within in
    level_alone (operand_is top) (read_by (rank top - rank l) l top (omega arith) x.plain (λ m i j. q m i (omega arith)) x.read) (q top h (omega arith))

-- up to the operand of the level that goes on
up_to : {d : ℕ} {top : Level} {ts : List Lexeme} {vs : List Value} {l : Level} {low : ℕ} {ts' : List Lexeme} {vs' : List Value} (m : Level)
    → Outwards d top ts vs l low ts' vs' → GoesOnAt l top (peek ts') m → HasRead d (inner m) ts vs low ts' vs'
up_to {l = l} m x g =
    let h = g.after in let i = g.within in
    read_by (rank m - rank l) l m (omega arith) (λ n a b. x.plain n a (omega arith)) g.quiet x.read

to_top : {d : ℕ} {top : Level} {ts : List Lexeme} {vs : List Value} {l : Level} {low : ℕ} {ts' : List Lexeme} {vs' : List Value} (m : Level) (s : Stop) {rest : List Lexeme}
    → Outwards d top ts vs l low ts' vs' → GoesOnAt l top (peek ts') m → HasStopped d (level in_full m) ts s rest → HasStopped d (level in_full top) ts s rest
to_top {top = top} m s x g y =
    let h = g.after in let i = g.within in
    weaker_stopped (rank top - rank m) m top s (omega arith) (λ n a b. x.plain n (omega arith) b) y

pub out_deep : {d : ℕ} {top : Level} {ts : List Lexeme} {vs : List Value} {l : Level} {low : ℕ} {ts' : List Lexeme} {vs' : List Value} (m : Level)
    (kind : Kind) → Outwards d top ts vs l low ts' vs' → kind ≡ peek ts' → GoesOnAt l top kind m → low ≡ 0 → HasStopped d (level in_full top) ts (At Deep) ts'
out_deep {top = top} {l = l} m kind x e f z =
    let g = subst (λ k. GoesOnAt l top k m) e f in to_top m (At Deep) x g (level_deep (operand_is m) (up_to m x g) g.goes z)

pub out_broken : {d : ℕ} {top : Level} {ts : List Lexeme} {vs : List Value} {l : Level} {low : ℕ} {ts' : List Lexeme} {vs' : List Value} (m : Level) (s : Stop) {rest : List Lexeme}
    (kind : Kind) → Outwards d top ts vs l low ts' vs' → kind ≡ peek ts' → GoesOnAt l top kind m → 0 < low → HasStopped (d - 1) (operators in_full m) ts' s rest → HasStopped d (level in_full top) ts s rest
unfolding steps
out_broken {top = top} {l = l} m s kind x e f z y =
    let g = subst (λ k. GoesOnAt l top k m) e f in to_top m s x g (steps_stopped s (operand_is m) (up_to m x g) g.goes z y)

-- the level that goes on is read
chained : {d : ℕ} {top : Level} {ts : List Lexeme} {vs : List Value} {l : Level} {low : ℕ} {ts' : List Lexeme} {vs' : List Value} (m : Level) {low' : ℕ} {rest : List Lexeme} {vs'' : List Value}
    → Outwards d top ts vs l low ts' vs' → GoesOnAt l top (peek ts') m → 0 < low → HasRead (d - 1) (operators in_full m) ts' vs' low' rest vs''
    → HasRead d (level in_full m) ts vs (min low' (low - 1)) rest (linked_on vs'')
unfolding steps
chained m x g z y = level_chain (operand_is m) (up_to m x g) g.goes z y

pub out_whole : {d : ℕ} {top : Level} {ts : List Lexeme} {vs : List Value} {l : Level} {low : ℕ} {ts' : List Lexeme} {vs' : List Value} (m : Level) {low' : ℕ} {rest : List Lexeme} {vs'' : List Value} (kind : Kind) (low'' : ℕ) (ts'' : List Lexeme) (us : List Value)
    → Outwards d top ts vs l low ts' vs' → kind ≡ peek ts' → GoesOnAt l top kind m → 0 < low → HasRead (d - 1) (operators in_full m) ts' vs' low' rest vs''
    → rank m ≡ rank top → low'' ≡ min low' (low - 1) → ts'' ≡ rest → us ≡ linked_on vs'' → HasRead d (level in_full top) ts vs low'' ts'' us
out_whole {d = d} {top = top} {ts = ts} {vs = vs} {l = l} {low = low} m {low' = low'} {rest = rest} {vs'' = vs''} kind low'' ts'' us x e f z y h a b c =
    let g = subst (λ k. GoesOnAt l top k m) e f in
    let same : m ≡ top = same_level m top h in
    rw (a, b, c) (subst (λ n. HasRead d (level in_full n) ts vs (min low' (low - 1)) rest (linked_on vs'')) same (chained m x g z y))

pub out_more : {d : ℕ} {top : Level} {ts : List Lexeme} {vs : List Value} {l : Level} {low : ℕ} {ts' : List Lexeme} {vs' : List Value} (m : Level) {low' : ℕ} {rest : List Lexeme} {vs'' : List Value} (kind : Kind) (next : Level) (low'' : ℕ) (ts'' : List Lexeme) (us : List Value)
    → Outwards d top ts vs l low ts' vs' → kind ≡ peek ts' → GoesOnAt l top kind m → 0 < low → HasRead (d - 1) (operators in_full m) ts' vs' low' rest vs''
    → (rank m ≡ rank top → ⊥) → next ≡ outer m → low'' ≡ min low' (low - 1) → ts'' ≡ rest → us ≡ linked_on vs'' → Outwards d top ts vs next low'' ts'' us
out_more {d = d} {top = top} {ts = ts} {vs = vs} {l = l} {low = low} m {low' = low'} {rest = rest} {vs'' = vs''} kind next low'' ts'' us x e f z y h o a b c =
    let g = subst (λ k. GoesOnAt l top k m) e f in
    let i = g.after in let j = g.within in let t = rank_low top in
    let less : rank m < rank top = lower j h in
    let n = rank_outer m (omega arith) in
    let one : HasRead d (inner (outer m)) ts vs (min low' (low - 1)) rest (linked_on vs'') = up m (x.plain m i less) (omega arith) (chained m x g z y) in
    let all : Outwards d top ts vs (outer m) (min low' (low - 1)) rest (linked_on vs'') = record {
      within = omega arith;
      plain = λ k q r. x.plain k (omega arith) r;
      read = one;
      low_within = let w = x.low_within in omega arith;
    } in
    rw (o, a, b, c) all

-- ---- how much is left

pub first_nearer : (top : Level) (kind : Kind) (l : Level) (ts : List Lexeme) → IsInmost top kind l → before_part ts (beginning l) + 8 ≤ before_part ts (level in_full top)
first_nearer top kind l ts i =
    let one : reach (inner l) < reach (level in_full l) = operand_reach (level in_full l) (inner l) (operand_is l) in
    let two : reach (beginning l) < reach (level in_full l) = subst (λ a. reach a < reach (level in_full l)) i.same one in
    let three = reach_more l top i.within in omega arith

pub operators_nearer : {d : ℕ} {top : Level} {ts : List Lexeme} {vs : List Value} {l : Level} {low : ℕ} {ts' : List Lexeme} {vs' : List Value} (m : Level)
    → Outwards d top ts vs l low ts' vs' → before_part ts' (operators in_full m) + 8 ≤ before_part ts (level in_full top)
operators_nearer {l = l} m x =
    let s = sound x.read.run in
    let h = solid_reads (s.read 0) (solid_level _ _ (operand_is l)).1 in
    let b = low_reach (operators in_full m) in omega arith

-- ---- the first operand

pub beginning_ruled : (l : Level) → operand (beginning l) ≡ None
unfolding operand
beginning_ruled instance = refl
beginning_ruled product = refl
beginning_ruled sum = refl
beginning_ruled order = refl
beginning_ruled equality = refl
beginning_ruled both = refl
beginning_ruled either = refl
beginning_ruled coalescing = refl
beginning_ruled choice = refl
beginning_ruled low_and = refl
beginning_ruled low_xor = refl
beginning_ruled low_or = refl

pub prim_ruled : operand (prim true) ≡ None
unfolding operand
prim_ruled = refl

pub prim_near : (ts : List Lexeme) (a : Part) → before_part ts (prim true) ≤ before_part ts a
unfolding reach
prim_near ts a = omega arith

pub unary_ok : (d : ℕ) (a : Part) (kind : Kind) (ts : List Lexeme) (vs : List Value) (ts' : List Lexeme) (vs' : List Value) (r : Result ℕ Stop)
    → a ≡ unary_part → kind ≡ peek ts → choose unary_part kind ≡ Some no_unary → IfOk r (λ low. HasRead d (prim true) ts vs low ts' vs') → IfOk r (λ low. HasRead d a ts vs low ts' vs')
unary_ok d a kind ts vs ts' vs' (Ok low) e k c x = rw e (unary_read (rw k at c) x)
unary_ok d a kind ts vs ts' vs' (Err s) e k c x = tt

pub unary_err : (d : ℕ) (a : Part) (kind : Kind) (ts ts' : List Lexeme) (r : Result ℕ Stop)
    → a ≡ unary_part → kind ≡ peek ts → choose unary_part kind ≡ Some no_unary → IfErr r (λ s. HasStopped d (prim true) ts s ts') → IfErr r (λ s. HasStopped d a ts s ts')
unary_err d a kind ts ts' (Ok low) e k c x = tt
unary_err d a kind ts ts' (Err s) e k c x = rw e (unary_stopped s (rw k at c) x)
