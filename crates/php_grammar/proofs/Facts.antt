-- All that the laws know of the table.
use Rattle.std.proofs.Common.{◌≡◌, ℕ, ◌<◌, Bool, true, false, ◌&&◌, ◌||◌, ◌==◌, List, [], ◌∷◌, ◌++◌, Option, Some, None, if◌then◌else◌, ◌⊎◌, inl, inr, refl, ap, sym, ◌∙◌, subst, nat_lt, rules, tests, arith}
use Rattle.std.proofs.lemmas.Bool.{eqb-true}
use Rattle.php_grammar.specs.declared.token.Kind.{Kind}
use Rattle.php_grammar.specs.declared.token.Kind.TheVariants.{End}
use Rattle.php_grammar.specs.Kinds.{code, holds}
use Rattle.php_grammar.specs.Parts.{Part, Rule, none_of, Symbol, tok, sub}
use Rattle.php_grammar.specs.Grammar.{Row, production, weight, operand, steps, rows, stops, finishes, laid, pick, last_of, has_row, choose, goes_on}
use Rattle.php_grammar.proofs.Closers.{enders, least_kinds}
use Rattle.php_grammar.proofs.Codes.{same_kind}
use Rattle.php_grammar.proofs.Table.{every, is_cons, opposite, is_there, is_solid, has_token, ends, front, first_or, fits, rows_pass, laid_pass, is_fitting, is_token_rule, is_quiet, begins, is_step, passes, is_bare, is_level, Sound}
use Rattle.php_grammar.proofs.Checked.{checked}

-- ---- tests

pub and_true : (a b : Bool) → a && b ≡ true → (a ≡ true) × (b ≡ true)
and_true true b h = (refl, h)
and_true false b h = absurd cc

pub or_true : (a b : Bool) → a || b ≡ true → (a ≡ true) ⊎ (b ≡ true)
or_true true b h = inl refl
or_true false b h = inr h

pub either : (b : Bool) → (b ≡ true) ⊎ (b ≡ false)
either true = inl refl
either false = inr refl

opposite_true : (b : Bool) → opposite b ≡ true → b ≡ false
opposite_true true h = absurd cc
opposite_true false h = refl

both : {A : Type 0} → (b : Bool) → b ≡ true → b ≡ false → A
both b p q = absurd (let e : true ≡ false = sym p ∙ q in cc)

in_every : (j : Kind) (ks : List Kind) (p : Kind → Bool) → holds (code j) ks ≡ true → every p ks ≡ true → p j ≡ true
in_every j [] p h e = absurd cc
in_every j (k ∷ ks) p h e =
    let s = and_true (p k) (every p ks) e in
    elim (either (code k == code j)) [
      | inl y ↦ subst (λ i. p i ≡ true) (same_kind k j (eqb-true _ _ y)) s.0
      | inr n ↦ in_every j ks p (rw n at h) s.1
    ]

-- what is chosen from rows is one of them, or what comes last
pub picked : (p : Kind → Rule → Bool) (n : ℕ) (last : Option Rule) (all : List Row) (r : Rule) → pick n last all ≡ Some r → rows_pass p all ≡ true
    → (last ≡ Some r) ⊎ ((k : Kind) × (p k r ≡ true))
picked p n last [] r c h = inl c
picked p n last ((k, x) ∷ more) r c h =
    let s = and_true (p k x) (rows_pass p more) h in
    elim (either (code k == n)) [
      | inl y ↦ inr (k, let e : x ≡ r = (let d : Some x ≡ Some r = rw y at c in cc) in subst (λ z. p k z ≡ true) e s.0)
      | inr y ↦ picked p n last more r (rw y at c) s.1
    ]

not_picked : (n : ℕ) (last : Option Rule) (all : List Row) → has_row n all ≡ false → pick n last all ≡ last
not_picked n last [] h = refl
not_picked n last ((k, x) ∷ more) h = elim (either (code k == n)) [
  | inl y ↦ both true refl (rw y at h)
  | inr y ↦ rw y (not_picked n last more (rw y at h))
]

-- the row of a kind
row_of : (p : Kind → Rule → Bool) (kind : Kind) (last : Option Rule) (all : List Row) → has_row (code kind) all ≡ true → rows_pass p all ≡ true
    → (r : Rule) × (pick (code kind) last all ≡ Some r) × (p kind r ≡ true)
row_of p kind last [] h s = absurd cc
row_of p kind last ((k, x) ∷ more) h s =
    let t = and_true (p k x) (rows_pass p more) s in
    elim (either (code k == code kind)) [
      | inl y ↦ (x, rw y refl, subst (λ i. p i x ≡ true) (same_kind k kind (eqb-true _ _ y)) t.0)
      | inr y ↦ let q = row_of p kind last more (rw y at h) t.1 in (q.0, rw y q.1, q.2)
    ]

pub last_is : (a : Part) (r : Rule) → last_of a ≡ Some r → ((finishes a ≡ true) × (r ≡ none_of a)) ⊎ (laid a ≡ Some r)
last_is a r c = elim (either (finishes a)) [
  | inl y ↦ inl (y, let e : Some (none_of a) ≡ Some r = rw y at c in cc)
  | inr y ↦ inr (rw y at c)
]

-- how a part's rule was chosen: nothing is read, or a rule that has a token and may be closed where the part may
abbrev pub may_be_none : Part → Bool
may_be_none a = is_cons (stops a) || finishes a

pub data Chosen (a : Part) (r : Rule) : Type 0 where
  stopped : may_be_none a ≡ true → r ≡ none_of a → Chosen a r
  taken : is_fitting a r ≡ true → is_token_rule r ≡ true → Chosen a r

held : (n : ℕ) (ks : List Kind) → holds n ks ≡ true → is_cons ks ≡ true
held n [] h = absurd cc
held n (k ∷ ks) h = refl

pub passed : (p : Rule → Bool) (x : Option Rule) (r : Rule) → x ≡ Some r → laid_pass p x ≡ true → p r ≡ true
passed p None r e h = absurd cc
passed p (Some x) r e h = let s : x ≡ r = cc in subst (λ z. p z ≡ true) s h

or_left : (a b : Bool) → a ≡ true → a || b ≡ true
or_left true b h = refl
or_left false b h = absurd cc

or_right : (a b : Bool) → b ≡ true → a || b ≡ true
or_right true b h = refl
or_right false b h = h

pub chosen : (a : Part) (kind : Kind) (r : Rule) → choose a kind ≡ Some r → Chosen a r
unfolding choose
chosen a kind r c = elim (either (holds (code kind) (stops a))) [
  | inl y ↦ stopped (or_left (is_cons (stops a)) (finishes a) (held (code kind) (stops a) y)) (let e : Some (none_of a) ≡ Some r = rw y at c in cc)
  | inr y ↦
      let d : pick (code kind) (last_of a) (rows a) ≡ Some r = rw y at c in
      let t = checked a in
      elim (picked (λ k. is_token_rule) (code kind) (last_of a) (rows a) r d t.rows_tokens) [
        | inl l ↦ elim (last_is a r l) [
          | inl f ↦ stopped (or_right (is_cons (stops a)) (finishes a) f.0) f.1
          | inr f ↦ taken (passed (is_fitting a) (laid a) r f t.laid_fits) (passed is_token_rule (laid a) r f t.laid_token)
        ]
        | inr q ↦ elim (picked (λ k. is_fitting a) (code kind) (last_of a) (rows a) r d t.rows_fit) [
          | inl l ↦ elim (last_is a r l) [
            | inl f ↦ stopped (or_right (is_cons (stops a)) (finishes a) f.0) f.1
            | inr f ↦ taken (passed (is_fitting a) (laid a) r f t.laid_fits) (passed is_token_rule (laid a) r f t.laid_token)
          ]
          | inr w ↦ taken w.1 q.1
        ]
      ]
]

-- ---- the facts

pub empty_production : (a : Part) → production (none_of a) ≡ []
unfolding production
empty_production a = refl

-- a rule of a part may be closed where the part may
pub rule_fits : (a : Part) (kind before : Kind) (r : Rule) → choose a kind ≡ Some r → ends a before ≡ true → fits (production r) before ≡ true
rule_fits a kind before r c h = elim (chosen a kind r c) [
  | stopped m e ↦ rw (e, empty_production a) refl
  | taken f t ↦ in_every before (enders a) (fits (production r)) h f
]

-- a rule of a part is its empty one, or has a token
pub rule_shape : (a : Part) (kind : Kind) (r : Rule) → choose a kind ≡ Some r → (r ≡ none_of a) ⊎ (has_token (production r) ≡ true)
rule_shape a kind r c = elim (chosen a kind r c) [ stopped m e ↦ inl e | taken f t ↦ inr t ]

solid_never : (a : Part) → is_solid a ≡ true → may_be_none a ≡ true → ⊥
solid_never a s m = elim (or_true (opposite (is_solid a)) (opposite (is_cons (stops a)) && opposite (finishes a)) (checked a).firm) [
  | inl o ↦ both (is_solid a) s (opposite_true _ o)
  | inr o ↦ let q = and_true (opposite (is_cons (stops a))) (opposite (finishes a)) o in
      elim (or_true (is_cons (stops a)) (finishes a) m) [ inl x ↦ both _ x (opposite_true _ q.0) | inr x ↦ both _ x (opposite_true _ q.1) ]
]

pub solid_rule : (a : Part) (kind : Kind) (r : Rule) → choose a kind ≡ Some r → is_solid a ≡ true → has_token (production r) ≡ true
solid_rule a kind r c s = elim (chosen a kind r c) [ stopped m e ↦ absurd (solid_never a s m) | taken f t ↦ t ]

-- where a part that may be empty may be closed, it is empty
pub at_end : (a : Part) (kind : Kind) → is_solid a ≡ false → ends a kind ≡ true → choose a kind ≡ Some (none_of a)
unfolding choose
at_end a kind s h = elim (or_true (is_solid a) (every (is_quiet a) (enders a)) (checked a).calm) [
  | inl x ↦ both (is_solid a) x s
  | inr x ↦ elim (or_true (holds (code kind) (stops a)) (opposite (has_row (code kind) (rows a)) && finishes a) (in_every kind (enders a) (is_quiet a) h x)) [
    | inl y ↦ rw y refl
    | inr y ↦ elim (either (holds (code kind) (stops a))) [
      | inl z ↦ rw z refl
      | inr z ↦
          let q = and_true (opposite (has_row (code kind) (rows a))) (finishes a) y in
          rw z (not_picked (code kind) (last_of a) (rows a) (opposite_true _ q.0) ∙ rw q.1 refl)
    ]
  ]
]

level_test : (a b : Part) → operand a ≡ Some b → (is_solid a ≡ true) × (is_solid b ≡ true) × (is_bare a ≡ true) × (every (passes a b) (enders a) ≡ true)
level_test a b o =
    let t : is_level a (Some b) ≡ true = subst (λ x. is_level a x ≡ true) o (checked a).leveled in
    let p = and_true _ _ t in let q = and_true _ _ p.1 in let r = and_true _ _ q.1 in (p.0, q.0, r.0, r.1)

pub solid_level : (a b : Part) → operand a ≡ Some b → (is_solid a ≡ true) × (is_solid b ≡ true)
solid_level a b o = let t = level_test a b o in (t.0, t.1)

-- a level's operand may be closed where the level may, and so may its steps
pub level_ends : (a b : Part) (kind : Kind) → operand a ≡ Some b → ends a kind ≡ true
    → (ends b kind ≡ true) × (ends (steps a) kind ≡ true) × (goes_on a kind ≡ false)
unfolding goes_on
level_ends a b kind o h =
    let p = in_every kind (enders a) (passes a b) h (level_test a b o).3 in
    let q = and_true _ _ p in let r = and_true _ _ q.1 in (q.0, r.0, opposite_true _ r.1)

pub not_cons : {A : Type 0} → (ks : List A) → is_cons ks ≡ false → ks ≡ []
not_cons [] h = refl
not_cons (k ∷ ks) h = absurd cc

not_there : (x : Option Rule) → is_there x ≡ false → x ≡ None
not_there None h = refl
not_there (Some r) h = absurd cc

-- a level has no rule of its own
pub level_unruled : (a b : Part) (kind : Kind) (r : Rule) → operand a ≡ Some b → choose a kind ≡ Some r → ⊥
unfolding choose
level_unruled a b kind r o c =
    let p = and_true _ _ (level_test a b o).2 in let q = and_true _ _ p.1 in let s = and_true _ _ q.1 in
    let e1 : stops a ≡ [] = not_cons (stops a) (opposite_true _ q.0) in
    let e2 : rows a ≡ [] = not_cons (rows a) (opposite_true _ p.0) in
    let e3 : finishes a ≡ false = opposite_true _ s.0 in
    let e4 : laid a ≡ None = not_there (laid a) (opposite_true _ s.1) in
    let e : choose a kind ≡ None = rw (e1, e2, e3, e4) refl in
    let d : None ≡ Some r = sym e ∙ c in absurd cc

pub no_end : (a : Part) → goes_on a End ≡ false
unfolding goes_on
no_end a = (checked a).ended

pub no_level_steps : (a b : Part) → operand (steps a) ≡ Some b → ⊥
no_level_steps a b o = let t : is_there (Some b) ≡ false = subst (λ x. is_there x ≡ false) o (checked a).plain_steps in absurd cc

-- a level goes on with a rule that begins with the operator, and may be closed after it
pub record Step (a : Part) (kind : Kind) : Type 0 where
  pub by : Rule
  pub onward : List Symbol
  pub chosen : choose (steps a) kind ≡ Some by
  pub made : production by ≡ tok kind ∷ onward
  pub light : weight by ≡ 0
  pub fitting : (before : Kind) → ends (steps a) before ≡ true → fits onward before ≡ true

begun : (p : List Symbol) (kind : Kind) → begins p kind ≡ true → (q : List Symbol) × (p ≡ tok kind ∷ q)
begun [] kind h = absurd cc
begun (tok k ∷ p) kind h = let e = same_kind k kind (eqb-true _ _ h) in (p, ap (λ i. tok i ∷ p) e)
begun (sub a ∷ p) kind h = absurd cc

-- steps stop nowhere before an operator
pub step_of : (a : Part) (kind : Kind) → goes_on a kind ≡ true → Step a kind
unfolding goes_on choose
step_of a kind h =
    let n = not_cons (stops (steps a)) (checked a).open_steps in
    let t = row_of is_step kind (last_of (steps a)) (rows (steps a)) h (checked a).stepped in
    let s = and_true _ _ t.2 in let q = begun (production t.0) kind s.0 in
    let c : choose (steps a) kind ≡ Some t.0 = rw n t.1 in
    record {
      by = t.0;
      onward = q.0;
      chosen = c;
      made = q.1;
      light = eqb-true _ _ s.1;
      fitting = λ before e. let f = rule_fits (steps a) kind before t.0 c e in rw q.1 at f;
    }

pub front_null : (p : List Symbol) (kind : Kind) → has_token p ≡ false → front p kind ≡ kind
front_null [] kind h = refl
front_null (tok x ∷ p) kind h = absurd cc
front_null (sub a ∷ p) kind h = elim (either (is_solid a)) [
  | inl y ↦ both true refl (rw y at h)
  | inr y ↦ rw (not_cons (least_kinds a) y) (front_null p kind (rw y at h))
]

pub first_token : (ks : List Kind) (i j : Kind) → (is_cons ks ≡ false → i ≡ j) → first_or ks i ≡ first_or ks j
first_token [] i j h = h refl
first_token (k ∷ ks) i j h = refl

pub lt-below : (m n : ℕ) → nat_lt m n ≡ true → m < n
lt-below m n h = search (rules, tests)
