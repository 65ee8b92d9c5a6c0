-- Steps through a quoted text.
use Rattle.std.proofs.Common.{◌≡◌, ℕ, ◌+◌, ◌-◌, Bool, false, List, [], ◌∷◌, ◌++◌, length, slice_set, drop, refl, ap, sym, ◌∙◌, subst, append_assoc, append-nil}
use Rattle.php_lexer.specs.Bytes.{Text}
use Rattle.php_lexer.specs.Pieces.{piece_at}
use Rattle.php_lexer.specs.Front.{raw_len, shape_len}
use Rattle.php_lexer.specs.Texts.{raw_bytes, part_of, with_bytes, kind_of}
use Rattle.php_lexer.specs.Marks.{Mark, mark_at}
use Rattle.php_lexer.specs.Tokens as tokens
use Rattle.php_lexer.specs.Tokens.{Outcome, read, fault, Goal, code, body, Reads}
use Rattle.php_lexer.specs.Scan.{body_goal, FaultAt, Adds, BodyLeads}
use Rattle.php_lexer.specs.declared.front.Piece.TheVariants as piece
use Rattle.php_lexer.specs.declared.front.Raw.{Raw}
use Rattle.php_lexer.specs.declared.front.Shape.{Shape}
use Rattle.php_lexer.specs.declared.kinds.Part.{Part}
use Rattle.php_lexer.specs.declared.kinds.Part.TheVariants.{Embedded}
use Rattle.php_lexer.specs.declared.fault.LexFault.{LexFault}
use Rattle.php_lexer.specs.declared.fault.LexFault.TheVariants.{At, Memory}
use Rattle.php_lexer.specs.declared.state.Quoted.{Quoted}
use Rattle.php_lexer.specs.declared.body.Body.{Body}
use Rattle.php_lexer.proofs.MarkLemmas.{set_kept}
use Rattle.php_lexer.proofs.ScanLemmas.{by_piece}

body_same : {t : Text} {x : Bool} {n q i j : ℕ} {ps qs : List Part} {bs cs : Text} {us vs : List Mark} {o : Outcome}
    → Reads t (body x n q i ps bs us) o → i ≡ j → ps ≡ qs → bs ≡ cs → us ≡ vs → Reads t (body x n q j qs cs vs) o
body_same {t = t} {x = x} {n = n} {q = q} {i = i} {j = j} {ps = ps} {qs = qs} {bs = bs} {cs = cs} {us = us} {o = o} r a b c d =
    subst (λ z. Reads t (body x n q j qs cs z) o) d (subst (λ z. Reads t (body x n q j qs z us) o) c
    (subst (λ z. Reads t (body x n q j z bs us) o) b (subst (λ z. Reads t (body x n q z ps bs us) o) a r)))

-- the closing quote: nothing was read
pub body_none : (t : Text) (place : Quoted) (i : ℕ) (was : Body) (ms : List Mark) → BodyLeads t place i i was was ms ms
body_none t place i was ms = record {
  added = [];
  list = sym (append-nil ms);
  reads = λ us o r. body_same r refl refl refl (append-nil us);
}

pub body_raw : (t : Text) (place : Quoted) (i j : ℕ) (was now : Body) (ms : List Mark) (f : Raw) → piece.Raw f ≡ piece_at place.is_double (drop i t)
    → j ≡ i + raw_len f → now.parts ≡ was.parts → now.bytes.items ≡ was.bytes.items ++ raw_bytes f (drop i t) → BodyLeads t place i j was now ms ms
body_raw t place i j was now ms f e a p b = record {
  added = [];
  list = sym (append-nil ms);
  reads = λ us o r. by_piece e (tokens.bytes (body_same r a p b (append-nil us)));
}

pub body_variable : (t : Text) (place : Quoted) (i j : ℕ) (was now : Body) (ms : List Mark) (s : Shape) → piece.Var s ≡ piece_at place.is_double (drop i t)
    → j ≡ i + shape_len s → now.parts ≡ with_bytes was.parts was.bytes.items ++ part_of s (drop i t) ∷ [] → now.bytes.items ≡ [] → BodyLeads t place i j was now ms ms
body_variable t place i j was now ms s e a p b = record {
  added = [];
  list = sym (append-nil ms);
  reads = λ us o r. by_piece e (tokens.variable (body_same r a p b (append-nil us)));
}

pub body_embedded : (t : Text) (place : Quoted) (i j : ℕ) (was now : Body) (old new : List Mark) → piece.Embedded ≡ piece_at place.is_double (drop i t)
    → now.parts ≡ with_bytes was.parts was.bytes.items ++ Embedded ∷ [] → now.bytes.items ≡ []
    → Adds t (code false (place.nest + 1) place.quote 0 (i + 1)) old new j → BodyLeads t place i j was now old new
body_embedded t place i j was now old new e p b a = record {
  added = a.added;
  list = a.list;
  reads = λ us o r. by_piece e (tokens.embedded a.reads (body_same r refl p b refl));
}

pub body_embedded_fault : (t : Text) (place : Quoted) (i : ℕ) (was : Body) (e : LexFault) (us : List Mark) → piece.Embedded ≡ piece_at place.is_double (drop i t)
    → FaultAt t (code false (place.nest + 1) place.quote 0 (i + 1)) e → FaultAt t (body_goal place i was.parts was.bytes.items us) e
body_embedded_fault t place i was Memory us e f = tt
body_embedded_fault t place i was (At p k) us e f = by_piece e (tokens.embedded_fault f)

-- ---- what was read from the quote on

-- the tokens are those before the quote, one whose place is kept, and those of the expressions; what follows is the rest of the body
pub record BodyAlong (t : Text) (place : Quoted) (at : ℕ) (now : Body) (old new : List Mark) : Type 0 where
  pub hole : Mark
  pub inner : List Mark
  pub list : new ≡ old ++ hole ∷ inner
  pub reads : (o : Outcome) → Reads t (body_goal place at now.parts now.bytes.items inner) o → Reads t (body_goal place (place.quote + 1) [] [] []) o

pub along_start : (t : Text) (place : Quoted) (at : ℕ) (now : Body) (old new : List Mark) (hole : Mark)
    → at ≡ place.quote + 1 → now.parts ≡ [] → now.bytes.items ≡ [] → new ≡ old ++ hole ∷ [] → BodyAlong t place at now old new
along_start t place at now old new hole a p b l = record {
  hole = hole;
  inner = [];
  list = l;
  reads = λ o r. body_same r a p b refl;
}

pub along_more : (t : Text) (place : Quoted) (i j : ℕ) (was now : Body) (old mid new : List Mark)
    → BodyAlong t place i was old mid → BodyLeads t place i j was now mid new → BodyAlong t place j now old new
along_more t place i j was now old mid new l m = record {
  hole = l.hole;
  inner = l.inner ++ m.added;
  list = m.list ∙ ap (λ z. z ++ m.added) l.list ∙ append_assoc old (l.hole ∷ l.inner) m.added;
  reads = λ o r. l.reads o (m.reads l.inner o r);
}

pub along_fault : (t : Text) (place : Quoted) (i : ℕ) (was : Body) (old mid : List Mark) (e : LexFault)
    → BodyAlong t place i was old mid → ((us : List Mark) → FaultAt t (body_goal place i was.parts was.bytes.items us) e)
    → FaultAt t (body_goal place (place.quote + 1) [] [] []) e
along_fault t place i was old mid Memory l f = tt
along_fault t place i was old mid (At p k) l f = l.reads (fault p k) (f l.inner)

pub along_end : (t : Text) (place : Quoted) (i j slot n : ℕ) (was : Body) (old mid new : List Mark)
    → BodyAlong t place i was old mid → piece.Close ≡ piece_at place.is_double (drop i t) → slot ≡ length old → j ≡ i + 1 → n ≡ i + 1 - place.quote
    → new ≡ slice_set mid slot (mark_at t (kind_of was.parts was.bytes.items) place.quote n)
    → Adds t (body_goal place (place.quote + 1) [] [] []) old new j
along_end t place i j slot n was old mid new l e s a b c =
    let m = mark_at t (kind_of was.parts was.bytes.items) place.quote n in
    let set : slice_set mid slot m ≡ old ++ m ∷ l.inner = ap (λ z. slice_set z slot m) l.list ∙ ap (λ z. slice_set (old ++ l.hole ∷ l.inner) z m) s ∙ set_kept old l.hole m l.inner in
    let ends = l.reads (read (mark_at t (kind_of was.parts was.bytes.items) place.quote (i + 1 - place.quote) ∷ l.inner) (i + 1)) (by_piece e tokens.closed) in
    record {
      added = m ∷ l.inner;
      list = c ∙ set;
      reads = subst (λ z. Reads t (body_goal place (place.quote + 1) [] [] []) (read (m ∷ l.inner) z)) (sym a)
          (subst (λ z. Reads t (body_goal place (place.quote + 1) [] [] []) (read (mark_at t (kind_of was.parts was.bytes.items) place.quote z ∷ l.inner) (i + 1))) (sym b) ends);
    }

-- ---- the same, of a step that names its text and its end in another way

pub along_next : (t u : Text) (place : Quoted) (i j k : ℕ) (was now : Body) (old mid new : List Mark)
    → u ≡ t → j ≡ k → BodyAlong t place i was old mid → BodyLeads u place i j was now mid new → BodyAlong t place k now old new
along_next t u place i j k was now old mid new e f l m =
    subst (λ z. BodyAlong t place z now old new) f (along_more t place i j was now old mid new l (subst (λ z. BodyLeads z place i j was now mid new) e m))

pub along_fault_next : (t u : Text) (place : Quoted) (i : ℕ) (was : Body) (old mid : List Mark) (e : LexFault)
    → u ≡ t → BodyAlong t place i was old mid → ((us : List Mark) → FaultAt u (body_goal place i was.parts was.bytes.items us) e)
    → FaultAt t (body_goal place (place.quote + 1) [] [] []) e
along_fault_next t u place i was old mid e f l h =
    along_fault t place i was old mid e l (λ us. subst (λ z. FaultAt z (body_goal place i was.parts was.bytes.items us) e) f (h us))

pub close_at : (t u : Text) (d : Bool) (i : ℕ) → u ≡ t → piece.Close ≡ piece_at d (drop i u) → piece.Close ≡ piece_at d (drop i t)
close_at t u d i e h = subst (λ z. piece.Close ≡ piece_at d (drop i z)) e h
