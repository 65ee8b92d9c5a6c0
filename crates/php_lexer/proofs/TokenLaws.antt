-- A goal has one outcome.
use Rattle.std.proofs.Common.{◌≡◌, ◌≢◌, ℕ, Bool, true, false, List, [], ◌∷◌, ◌++◌, refl, ap, sym, ◌∙◌, subst}
use Rattle.php_lexer.specs.Bytes.{Text}
use Rattle.php_lexer.specs.Marks.{Mark, mark_at}
use Rattle.php_lexer.specs.declared.kinds.Kind.TheVariants as kind
use Rattle.php_lexer.specs.declared.kinds.Sign.TheVariants.{Semicolon, BraceOpen, BraceClose}
use Rattle.php_lexer.specs.declared.kinds.Part.{Part}
use Rattle.php_lexer.specs.declared.fault.LexKind.{LexKind}
use Rattle.php_lexer.specs.declared.fault.LexFault.{LexFault}
use Rattle.php_lexer.specs.declared.fault.LexFault.TheVariants.{At, Memory}
use Rattle.php_lexer.specs.Scan.{FaultAt}
use Rattle.php_lexer.specs.Tokens.{simple_kind, Outcome, read, fault, after, Goal, code, body, Reads, from_outer, inline, open_tag, echo_tag, outer_end, outer_open, from_front, blank, close_tag, token, open_brace, shut_brace, last_brace, quoted, quoted_fault, nested, code_end, code_open, code_fault, from_piece, bytes, variable, embedded, embedded_fault, closed, body_open, body_fault, whole, IsTokens, HasOneList, FaultIsAlone}

read_tokens : {ts us : List Mark} {i j : ℕ} → read ts i ≡ read us j → ts ≡ us
read_tokens e = cc

read_end : {ts us : List Mark} {i j : ℕ} → read ts i ≡ read us j → i ≡ j
read_end e = cc

other : {ts : List Mark} {i p : ℕ} {k : LexKind} → read ts i ≡ fault p k → ⊥
other e = cc

true_false : {b : Bool} → b ≡ true → b ≡ false → ⊥
true_false p q = cc

at_place : {t : Text} {n q d i j : ℕ} {o : Outcome} → Reads t (code false n q d j) o → j ≡ i → Reads t (code false n q d i) o
at_place {t = t} {n = n} {q = q} {d = d} {o = o} r e = subst (λ x. Reads t (code false n q d x) o) e r

at_body : {t : Text} {x : Bool} {n q i j : ℕ} {ps : List Part} {us vs : List Mark} {o : Outcome}
    → Reads t (body x n q j ps [] us) o → j ≡ i → us ≡ vs → Reads t (body x n q i ps [] vs) o
at_body {t = t} {x = x} {n = n} {q = q} {i = i} {ps = ps} {us = us} {o = o} r e f =
    subst (λ z. Reads t (body x n q i ps [] z) o) f (subst (λ z. Reads t (body x n q z ps [] us) o) e r)

pub one : {t : Text} {g : Goal} {a b : Outcome} → Reads t g a → Reads t g b → a ≡ b
one (from_outer r) (from_outer s) = one r s
one (inline {t = t} {i = i} {k = k} r) (inline s) = ap (after (mark_at t kind.Inline i k ∷ [])) (one r s)
one (open_tag r) (open_tag s) = one r s
one (echo_tag {t = t} {i = i} r) (echo_tag s) = ap (after (mark_at t kind.Echo i 3 ∷ [])) (one r s)
one (outer_end e) (outer_end f) = refl
one (outer_end e) (outer_open f) = absurd (f e)
one (outer_open e) (outer_end f) = absurd (e f)
one (outer_open e) (outer_open f) = refl
one (from_front r) (from_front s) = one r s
one (blank r) (blank s) = one r s
one (close_tag {t = t} {i = i} r) (close_tag s) = ap (after (mark_at t (kind.Sign Semicolon) i 2 ∷ [])) (one r s)
one (token {t = t} {s = f} {i = i} {k = k} r) (token s) = ap (after (mark_at t (simple_kind f) i k ∷ [])) (one r s)
one (open_brace {t = t} {i = i} r) (open_brace s) = ap (after (mark_at t (kind.Sign BraceOpen) i 1 ∷ [])) (one r s)
one (shut_brace {t = t} {i = i} e r) (shut_brace f s) = ap (after (mark_at t (kind.Sign BraceClose) i 1 ∷ [])) (one r s)
one (shut_brace e r) (last_brace f) = absurd (true_false f e)
one (last_brace e) (shut_brace f s) = absurd (true_false e f)
one (last_brace e) (last_brace f) = refl
one (quoted {o = o} e r m) (quoted {us = vs} f s k) =
    let same = one r s in ap (λ us. after us o) (read_tokens same) ∙ ap (after vs) (one m (at_place k (sym (read_end same))))
one (quoted e r m) (quoted_fault f s) = absurd (other (one r s))
one (quoted e r m) (nested f) = absurd (true_false f e)
one (quoted_fault e r) (quoted f s k) = absurd (other (sym (one r s)))
one (quoted_fault e r) (quoted_fault f s) = one r s
one (quoted_fault e r) (nested f) = absurd (true_false f e)
one (nested e) (quoted f s k) = absurd (true_false e f)
one (nested e) (quoted_fault f s) = absurd (true_false e f)
one (nested e) (nested f) = refl
one (code_end e) (code_end f) = refl
one (code_end e) (code_open f) = absurd (f e)
one (code_open e) (code_end f) = absurd (e f)
one (code_open e) (code_open f) = refl
one code_fault code_fault = refl
one (from_piece r) (from_piece s) = one r s
one (bytes r) (bytes s) = one r s
one (variable r) (variable s) = one r s
one (embedded {us = us} r m) (embedded s k) =
    let same = one r s in one m (at_body k (sym (read_end same)) (ap (λ vs. us ++ vs) (sym (read_tokens same))))
one (embedded r m) (embedded_fault s) = absurd (other (one r s))
one (embedded_fault r) (embedded s k) = absurd (other (sym (one r s)))
one (embedded_fault r) (embedded_fault s) = one r s
one closed closed = refl
one body_open body_open = refl
one body_fault body_fault = refl

pub one_list : HasOneList
one_list t ts us r s = read_tokens (one r.1 s.1)

fault_place : {p q : ℕ} {k l : LexKind} → fault p k ≡ fault q l → (p ≡ q) × (k ≡ l)
fault_place e = (cc, cc)

pub fault_alone : FaultIsAlone
fault_alone = record {
  no_tokens = λ t ts place k r s. other (one s.1 r);
  one_fault = λ t p q k l r s. fault_place (one r s);
}

-- where a fault was read, there are no tokens
pub fault_none : (t u : Text) (i : ℕ) (e : LexFault) → u ≡ t → i ≡ 0 → FaultAt u (code true 0 0 0 i) e → e ≢ Memory → (ts : List Mark) → ¬ (IsTokens t ts)
fault_none t u i Memory a b f n ts r = n refl
fault_none t u i (At p k) a b f n ts r =
    let here = subst (λ z. Reads z whole (fault p k)) a (subst (λ z. Reads u (code true 0 0 0 z) (fault p k)) b f) in other (one r.1 here)
