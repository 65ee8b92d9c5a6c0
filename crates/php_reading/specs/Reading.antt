-- What a reader has done when it stops: tokens are taken, values are put on the others, or the next token is the fault.
use Rattle.std.specs.Prelude.{◌≡◌, ℕ, ◌+◌, ◌-◌, ◌*◌, ◌≤◌, max, min, Bool, true, false, List, [], ◌∷◌, ◌++◌, length, reverse, ⊤}
use Rattle.php_grammar.specs.declared.token.Fault.{Fault}
use Rattle.php_grammar.specs.declared.part.Part.{Part}
use Rattle.php_grammar.specs.declared.part.Symbol.{Symbol}
use Rattle.php_grammar.specs.Values.{Value, leaf}
use Rattle.php_grammar.specs.declared.lexeme.Lexeme.{Lexeme}
use Rattle.php_grammar.specs.Reads.{part_of, seq}
use Rattle.php_grammar.specs.Run.{Outcome, got, fault, Run}
use Rattle.php_grammar.specs.Reach.{reach, lead}
use Rattle.php_reading.specs.declared.stop.Stop.{Stop}
use Rattle.php_reading.specs.declared.stop.Stop.TheVariants.{At, Memory}
use Rattle.php_reading.specs.declared.waiting.Waiting.{Waiting}
use Rattle.php_reading.specs.Stack.{values_after}

-- how much is left to read, where a part (or something led by as much) comes next
abbrev pub before_part : List Lexeme → Part → ℕ
before_part ts a = 512 * length ts + 8 * reach a

abbrev pub before_all : List Lexeme → List Symbol → ℕ
before_all ts p = 512 * length ts + 8 * lead p

-- ---- a part

-- The part is read from the tokens ts up to ts', and one value is put on the values vs. Of the budget d, `low` is left at the
-- deepest token.
pub record HasRead (d : ℕ) (a : Part) (ts : List Lexeme) (vs : List Value) (low : ℕ) (ts' : List Lexeme) (vs' : List Value) : Type 0 where
  pub height : ℕ
  pub value : Value
  pub run : Run d (part_of a) ts (got (value ∷ []) height ts')
  pub on_top : vs' ≡ value ∷ vs
  pub lowest : low ≡ d - height

abbrev pub IsReason : Stop → (Fault → Type 0) → Type 0
IsReason (At f) P = P f
IsReason Memory P = ⊤

-- The tokens ts' begin with the fault, unless memory was wanting.
pub record HasStopped (d : ℕ) (a : Part) (ts : List Lexeme) (s : Stop) (ts' : List Lexeme) : Type 0 where
  pub why : IsReason s (λ f. Run d (part_of a) ts (fault f ts'))

-- ---- symbols, of which others may follow

abbrev pub beside : List Value → ℕ → Outcome → Outcome
beside vs h (got ws i rest) = got (vs ++ ws) (max h i) rest
beside vs h (fault f rest) = fault f rest

-- The symbols are read from the tokens ts up to ts', and their values are put on vs.
pub record HasReadAll (d : ℕ) (p : List Symbol) (ts : List Lexeme) (vs : List Value) (low : ℕ) (ts' : List Lexeme) (vs' : List Value) : Type 0 where
  pub height : ℕ
  pub values : List Value
  pub run : (q : List Symbol) (o : Outcome) → Run d (seq q) ts' o → Run d (seq (p ++ q)) ts (beside values height o)
  pub on_top : vs' ≡ reverse values ++ vs
  pub counts : length values ≡ length p
  pub lowest : low ≡ d - height
  pub nearer : (q : List Symbol) → before_all ts' q ≤ before_all ts (p ++ q)
  pub fewer : length ts' ≤ length ts

pub record HasStoppedIn (d : ℕ) (p : List Symbol) (ts : List Lexeme) (s : Stop) (ts' : List Lexeme) : Type 0 where
  pub why : IsReason s (λ f. (q : List Symbol) → Run d (seq (p ++ q)) ts (fault f ts'))

-- ---- a part of which a front is read

-- When the part a is read with the budget d, and then all is made that waits, then the part a0 is read.
pub record GoesOn (d0 : ℕ) (a0 : Part) (ts0 : List Lexeme) (vs0 : List Value) (d : ℕ) (a : Part) (low : ℕ) (ts : List Lexeme) (vs : List Value) (ws : List Waiting) : Type 0 where
  pub reads : (v : Value) (h : ℕ) (rest : List Lexeme) → Run d (part_of a) ts (got (v ∷ []) h rest)
      → HasRead d0 a0 ts0 vs0 (min low (d - h)) rest (values_after ws (v ∷ vs))
  pub stops : (f : Fault) (rest : List Lexeme) → Run d (part_of a) ts (fault f rest) → Run d0 (part_of a0) ts0 (fault f rest)

-- ---- a token

-- The first of the tokens ts is taken, and put on the values vs.
abbrev pub HasTaken : List Lexeme → List Value → List Lexeme → List Value → Type 0
HasTaken [] vs ts' vs' = ⊤
HasTaken (t ∷ ts) vs ts' vs' = (ts' ≡ ts) × (vs' ≡ leaf t ∷ vs)

abbrev pub is_empty : List Lexeme → Bool
is_empty [] = true
is_empty (t ∷ ts) = false
