-- What the laws ask of a table, as a test of each of its parts.
use Rattle.std.proofs.Common.{◌≡◌, ℕ, ◌<◌, Bool, true, false, ◌&&◌, ◌||◌, ◌==◌, nat_lt, List, [], ◌∷◌, ◌++◌, Option, Some, None, if◌then◌else◌}
use Rattle.php_grammar.specs.declared.token.Kind.{Kind}
use Rattle.php_grammar.specs.declared.token.Kind.TheVariants.{End}
use Rattle.php_grammar.specs.Kinds.{code, holds}
use Rattle.php_grammar.specs.Parts.{Part, Rule, Symbol, tok, sub}
use Rattle.php_grammar.specs.Grammar.{Row, production, weight, operand, steps, rows, stops, finishes, laid, has_row, choose}
use Rattle.php_grammar.specs.Reads.{Goal, part_of, seq}
use Rattle.php_grammar.proofs.Closers.{enders, least_kinds, rank}

-- ---- lists and tests

abbrev pub every : {A : Type 0} → (A → Bool) → List A → Bool
every p [] = true
every p (a ∷ more) = p a && every p more

abbrev pub is_cons : {A : Type 0} → List A → Bool
is_cons [] = false
is_cons (a ∷ more) = true

abbrev pub opposite : Bool → Bool
opposite true = false
opposite false = true

abbrev pub is_there : {A : Type 0} → Option A → Bool
is_there None = false
is_there (Some a) = true

-- ---- what has at least one token

abbrev pub is_solid : Part → Bool
is_solid a = is_cons (least_kinds a)

abbrev pub has_token : List Symbol → Bool
has_token [] = false
has_token (tok kind ∷ p) = true
has_token (sub a ∷ p) = is_solid a || has_token p

abbrev pub solid : Goal → Bool
solid (part_of a) = is_solid a
solid (seq p) = has_token p

-- ---- what a closing list goes on with

-- the part may be closed before such a token
abbrev pub ends : Part → Kind → Bool
ends a kind = holds (code kind) (enders a)

abbrev pub first_or : List Kind → Kind → Kind
first_or [] kind = kind
first_or (k ∷ ks) kind = k

-- the first token of a closing list of the symbols, before such a token
abbrev pub front : List Symbol → Kind → Kind
front [] kind = kind
front (tok k ∷ p) kind = k
front (sub a ∷ p) kind = first_or (least_kinds a) (front p kind)

abbrev pub fits : List Symbol → Kind → Bool
fits [] kind = true
fits (tok _ ∷ p) kind = fits p kind
fits (sub a ∷ p) kind = ends a (front p kind) && fits p kind

abbrev pub closes : Goal → Kind → Bool
closes (part_of a) kind = ends a kind
closes (seq p) kind = fits p kind

-- ---- the tests of a part

abbrev pub rows_pass : (Kind → Rule → Bool) → List Row → Bool
rows_pass p [] = true
rows_pass p ((k, r) ∷ more) = p k r && rows_pass p more

abbrev pub laid_pass : (Rule → Bool) → Option Rule → Bool
laid_pass p None = true
laid_pass p (Some r) = p r

-- a rule may be closed where the part may
abbrev pub is_fitting : Part → Rule → Bool
is_fitting a r = every (fits (production r)) (enders a)

abbrev pub is_token_rule : Rule → Bool
is_token_rule r = has_token (production r)

-- nothing is read there
abbrev pub is_quiet : Part → Kind → Bool
is_quiet a kind = holds (code kind) (stops a) || (opposite (has_row (code kind) (rows a)) && finishes a)

abbrev pub begins : List Symbol → Kind → Bool
begins [] kind = false
begins (tok k ∷ p) kind = code k == code kind
begins (sub a ∷ p) kind = false

-- the row of an operator begins with it and is no node
abbrev pub is_step : Kind → Rule → Bool
is_step kind r = begins (production r) kind && (weight r == 0)

-- a level passes on to its operand before what may close it
abbrev pub passes : Part → Part → Kind → Bool
passes a b kind = ends b kind && (ends (steps a) kind && opposite (has_row (code kind) (rows (steps a))))

abbrev pub is_bare : Part → Bool
is_bare a = opposite (is_cons (rows a)) && (opposite (is_cons (stops a)) && (opposite (finishes a) && opposite (is_there (laid a))))

abbrev pub is_level : Part → Option Part → Bool
is_level a None = true
is_level a (Some b) = is_solid a && (is_solid b && (is_bare a && every (passes a b) (enders a)))

pub record Sound (a : Part) : Type 0 where
  pub rows_fit : rows_pass (λ k. is_fitting a) (rows a) ≡ true
  pub laid_fits : laid_pass (is_fitting a) (laid a) ≡ true
  pub rows_tokens : rows_pass (λ k. is_token_rule) (rows a) ≡ true
  pub laid_token : laid_pass is_token_rule (laid a) ≡ true
  pub calm : is_solid a || every (is_quiet a) (enders a) ≡ true
  pub firm : opposite (is_solid a) || (opposite (is_cons (stops a)) && opposite (finishes a)) ≡ true
  pub stepped : rows_pass is_step (rows (steps a)) ≡ true
  pub leveled : is_level a (operand a) ≡ true
  pub ended : has_row (code End) (rows (steps a)) ≡ false
  pub plain_steps : is_there (operand (steps a)) ≡ false
  pub open_steps : is_cons (stops (steps a)) ≡ false

-- ---- shortest lists

abbrev pub least_list : List Symbol → List Kind
least_list [] = []
least_list (tok k ∷ p) = k ∷ least_list p
least_list (sub a ∷ p) = least_kinds a ++ least_list p

-- the parts among the symbols are of a lower rank
abbrev pub are_below : ℕ → List Symbol → Bool
are_below n [] = true
are_below n (tok k ∷ p) = are_below n p
are_below n (sub a ∷ p) = nat_lt (rank a) n && are_below n p

-- how a part's shortest list is read
pub data Sort (a : Part) : Type 0 where
  nullable : is_solid a ≡ false → Sort a
  ruled : (r : Rule) → choose a (front (production r) End) ≡ Some r → least_kinds a ≡ least_list (production r) → are_below (rank a) (production r) && has_token (production r) ≡ true → Sort a
  leveled_on : (b : Part) → operand a ≡ Some b → least_kinds a ≡ least_kinds b → nat_lt (rank b) (rank a) ≡ true → Sort a
