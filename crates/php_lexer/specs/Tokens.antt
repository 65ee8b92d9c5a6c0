-- The tokens of a text, and its first fault.
--
-- `Reads t goal outcome` relates what is to be read of the text t to what reading gives: the tokens up to the end, or the
-- first fault. Each case reads one form at a front of the text, and the rest is read by the same relation. A goal has
-- the count of double-quoted texts around, the place of the innermost one's quote, the count of braces that are open in
-- its embedded expression, and the place where the rest begins.
use Rattle.std.specs.Prelude.{◌≡◌, ℕ, ◌+◌, ◌-◌, Bool, true, false, not, nat_le, ◌&&◌, ◌==◌, List, [], ◌∷◌, ◌++◌, drop}
use Rattle.php_lexer.specs.Bytes.{Text}
use Rattle.php_lexer.specs.Code.{outside, inside}
use Rattle.php_lexer.specs.Pieces.{piece_at}
use Rattle.php_lexer.specs.Front.{raw_len, shape_len}
use Rattle.php_lexer.specs.Texts.{raw_bytes, part_of, with_bytes, kind_of}
use Rattle.php_lexer.specs.Marks.{Mark, mark_at}
use Rattle.php_lexer.specs.declared.front.Outer.{Outer}
use Rattle.php_lexer.specs.declared.front.Outer.TheVariants as outer
use Rattle.php_lexer.specs.declared.front.Front.{Front}
use Rattle.php_lexer.specs.declared.front.Front.TheVariants as front
use Rattle.php_lexer.specs.declared.front.Piece.{Piece}
use Rattle.php_lexer.specs.declared.front.Piece.TheVariants as piece
use Rattle.php_lexer.specs.declared.front.Simple.{Simple}
use Rattle.php_lexer.specs.declared.front.Simple.TheVariants as simple
use Rattle.php_lexer.specs.declared.front.Raw.{Raw}
use Rattle.php_lexer.specs.declared.front.Shape.{Shape}
use Rattle.php_lexer.specs.declared.kinds.Kind.{Kind}
use Rattle.php_lexer.specs.declared.kinds.Kind.TheVariants as kind
use Rattle.php_lexer.specs.declared.kinds.Sign.TheVariants.{Semicolon, BraceOpen, BraceClose}
use Rattle.php_lexer.specs.declared.kinds.Part.{Part}
use Rattle.php_lexer.specs.declared.kinds.Part.TheVariants.{Embedded}
use Rattle.php_lexer.specs.declared.fault.LexFault.{LexFault}
use Rattle.php_lexer.specs.declared.fault.LexFault.TheVariants.{At, Memory}
use Rattle.php_lexer.specs.declared.fault.LexKind.{LexKind}
use Rattle.php_lexer.specs.declared.fault.LexKind.TheVariants.{OpenString, Form}
use Rattle.php_lexer.specs.declared.fault.FormName.TheVariants.{Nesting}

-- the kind of a token that is told by its form alone
abbrev pub simple_kind : Simple → Kind
simple_kind simple.Var = kind.Var
simple_kind simple.Word = kind.Word
simple_kind (simple.Int n) = kind.Int n
simple_kind (simple.Cast c) = kind.Cast c
simple_kind (simple.Sign s) = kind.Sign s

-- a closing brace ends an embedded expression, where none of its braces is open
abbrev pub ends_part : ℕ → ℕ → Bool
ends_part nest depth = not (nest == 0) && depth == 0

-- a double-quoted text that 200 others enclose
abbrev pub too_deep : Bool → ℕ → Bool
too_deep is_double nest = is_double && nat_le 200 nest

pub data Outcome : Type 0 where
  -- the tokens, and the place after the last
  read : List Mark → ℕ → Outcome
  fault : ℕ → LexKind → Outcome

-- tokens, and then what is read after them
abbrev pub after : List Mark → Outcome → Outcome
after ms (read ts end) = read (ms ++ ts) end
after ms (fault place k) = fault place k

pub data Goal : Type 0 where
  -- the rest, outside the code or inside
  code : Bool → ℕ → ℕ → ℕ → ℕ → Goal
  outer_at : Outer → ℕ → ℕ → ℕ → ℕ → Goal
  front_at : Front → ℕ → ℕ → ℕ → ℕ → Goal
  -- the rest of a quoted text, double or single, in so many others, from its quote, with the parts and bytes before it
  -- and the tokens of the expressions in them
  body : Bool → ℕ → ℕ → ℕ → List Part → Text → List Mark → Goal
  body_at : Piece → Bool → ℕ → ℕ → ℕ → List Part → Text → List Mark → Goal

pub data Reads : Text → Goal → Outcome → Type 0 where
  -- ---- outside the code
  from_outer : {t : Text} {n q d i : ℕ} {o : Outcome} → Reads t (outer_at (outside (drop i t)) n q d i) o → Reads t (code true n q d i) o
  inline : {t : Text} {n q d i k : ℕ} {o : Outcome}
      → Reads t (code true n q d (i + k)) o → Reads t (outer_at (outer.Inline k) n q d i) (after (mark_at t kind.Inline i k ∷ []) o)
  open_tag : {t : Text} {n q d i k : ℕ} {o : Outcome} → Reads t (code false n q d (i + k)) o → Reads t (outer_at (outer.Tag k) n q d i) o
  echo_tag : {t : Text} {n q d i : ℕ} {o : Outcome}
      → Reads t (code false n q d (i + 3)) o → Reads t (outer_at outer.Echo n q d i) (after (mark_at t kind.Echo i 3 ∷ []) o)
  outer_end : {t : Text} {n q d i : ℕ} → n ≡ 0 → Reads t (outer_at outer.End n q d i) (read (mark_at t kind.End i 0 ∷ []) i)
  outer_open : {t : Text} {n q d i : ℕ} → (n ≡ 0 → ⊥) → Reads t (outer_at outer.End n q d i) (fault q OpenString)
  -- ---- inside
  from_front : {t : Text} {n q d i : ℕ} {o : Outcome} → Reads t (front_at (inside (drop i t)) n q d i) o → Reads t (code false n q d i) o
  blank : {t : Text} {n q d i k : ℕ} {o : Outcome} → Reads t (code false n q d (i + k)) o → Reads t (front_at (front.Blank k) n q d i) o
  close_tag : {t : Text} {n q d i k : ℕ} {o : Outcome}
      → Reads t (code true n q d (i + k)) o → Reads t (front_at (front.Close k) n q d i) (after (mark_at t (kind.Sign Semicolon) i 2 ∷ []) o)
  token : {t : Text} {s : Simple} {n q d i k : ℕ} {o : Outcome}
      → Reads t (code false n q d (i + k)) o → Reads t (front_at (front.Token s k) n q d i) (after (mark_at t (simple_kind s) i k ∷ []) o)
  open_brace : {t : Text} {n q d i : ℕ} {o : Outcome}
      → Reads t (code false n q (d + 1) (i + 1)) o → Reads t (front_at front.Open n q d i) (after (mark_at t (kind.Sign BraceOpen) i 1 ∷ []) o)
  shut_brace : {t : Text} {n q d i : ℕ} {o : Outcome}
      → ends_part n d ≡ false → Reads t (code false n q (d - 1) (i + 1)) o
      → Reads t (front_at front.Shut n q d i) (after (mark_at t (kind.Sign BraceClose) i 1 ∷ []) o)
  last_brace : {t : Text} {n q d i : ℕ}
      → ends_part n d ≡ true → Reads t (front_at front.Shut n q d i) (read (mark_at t (kind.Sign BraceClose) i 1 ∷ []) (i + 1))
  quoted : {t : Text} {x : Bool} {n q d i j : ℕ} {us : List Mark} {o : Outcome}
      → too_deep x n ≡ false → Reads t (body x n i (i + 1) [] [] []) (read us j) → Reads t (code false n q d j) o
      → Reads t (front_at (front.Quote x) n q d i) (after us o)
  quoted_fault : {t : Text} {x : Bool} {n q d i p : ℕ} {k : LexKind}
      → too_deep x n ≡ false → Reads t (body x n i (i + 1) [] [] []) (fault p k) → Reads t (front_at (front.Quote x) n q d i) (fault p k)
  nested : {t : Text} {x : Bool} {n q d i : ℕ} → too_deep x n ≡ true → Reads t (front_at (front.Quote x) n q d i) (fault i (Form Nesting))
  code_end : {t : Text} {n q d i : ℕ} → n ≡ 0 → Reads t (front_at front.End n q d i) (read (mark_at t kind.End i 0 ∷ []) i)
  code_open : {t : Text} {n q d i : ℕ} → (n ≡ 0 → ⊥) → Reads t (front_at front.End n q d i) (fault q OpenString)
  code_fault : {t : Text} {n q d i k : ℕ} {f : LexKind} → Reads t (front_at (front.Fault k f) n q d i) (fault (i + k) f)
  -- ---- in a quoted text
  from_piece : {t : Text} {x : Bool} {n q i : ℕ} {ps : List Part} {bs : Text} {us : List Mark} {o : Outcome}
      → Reads t (body_at (piece_at x (drop i t)) x n q i ps bs us) o → Reads t (body x n q i ps bs us) o
  bytes : {t : Text} {x : Bool} {r : Raw} {n q i : ℕ} {ps : List Part} {bs : Text} {us : List Mark} {o : Outcome}
      → Reads t (body x n q (i + raw_len r) ps (bs ++ raw_bytes r (drop i t)) us) o → Reads t (body_at (piece.Raw r) x n q i ps bs us) o
  variable : {t : Text} {x : Bool} {s : Shape} {n q i : ℕ} {ps : List Part} {bs : Text} {us : List Mark} {o : Outcome}
      → Reads t (body x n q (i + shape_len s) (with_bytes ps bs ++ part_of s (drop i t) ∷ []) [] us) o
      → Reads t (body_at (piece.Var s) x n q i ps bs us) o
  embedded : {t : Text} {x : Bool} {n q i j : ℕ} {ps : List Part} {bs : Text} {us vs : List Mark} {o : Outcome}
      → Reads t (code false (n + 1) q 0 (i + 1)) (read vs j) → Reads t (body x n q j (with_bytes ps bs ++ Embedded ∷ []) [] (us ++ vs)) o
      → Reads t (body_at piece.Embedded x n q i ps bs us) o
  embedded_fault : {t : Text} {x : Bool} {n q i p : ℕ} {ps : List Part} {bs : Text} {us : List Mark} {k : LexKind}
      → Reads t (code false (n + 1) q 0 (i + 1)) (fault p k) → Reads t (body_at piece.Embedded x n q i ps bs us) (fault p k)
  closed : {t : Text} {x : Bool} {n q i : ℕ} {ps : List Part} {bs : Text} {us : List Mark}
      → Reads t (body_at piece.Close x n q i ps bs us) (read (mark_at t (kind_of ps bs) q (i + 1 - q) ∷ us) (i + 1))
  body_open : {t : Text} {x : Bool} {n q i : ℕ} {ps : List Part} {bs : Text} {us : List Mark}
      → Reads t (body_at piece.End x n q i ps bs us) (fault q OpenString)
  body_fault : {t : Text} {x : Bool} {n q i k : ℕ} {ps : List Part} {bs : Text} {us : List Mark} {f : LexKind}
      → Reads t (body_at (piece.Fault k f) x n q i ps bs us) (fault (i + k) f)

-- a file begins outside the code
abbrev pub whole : Goal
whole = code true 0 0 0 0

-- the text's tokens, the end token last
abbrev pub IsTokens : Text → List Mark → Type 0
IsTokens t ts = (end : ℕ) × Reads t whole (read ts end)

-- the text's first fault
abbrev pub IsFirstFault : Text → ℕ → LexKind → Type 0
IsFirstFault t place k = Reads t whole (fault place k)

-- the fault is the text's first, or want of memory
abbrev pub IsFaultOf : Text → LexFault → Type 0
IsFaultOf t (At place k) = IsFirstFault t place k
IsFaultOf t Memory = Unit {0}

-- a text has at most one list of tokens
abbrev pub HasOneList : Type 0
HasOneList = (t : Text) (ts us : List Mark) → IsTokens t ts → IsTokens t us → ts ≡ us

-- a text with a fault has no tokens, and no other first fault
pub record FaultIsAlone : Type 0 where
  pub no_tokens : (t : Text) (ts : List Mark) (place : ℕ) (k : LexKind) → IsFirstFault t place k → IsTokens t ts → ⊥
  pub one_fault : (t : Text) (p q : ℕ) (k l : LexKind) → IsFirstFault t p k → IsFirstFault t q l → (p ≡ q) × (k ≡ l)
