-- A placeholder's tokens, one after another: what is read of a text that begins with it begins with them.
use Rattle.std.proofs.Common.{◌≡◌, ℕ, suc, ◌+◌, ◌-◌, true, false, List, [], ◌∷◌, ◌++◌, refl, drop, take, length, ap, sym, subst, ◌∙◌, arith, drop-drop, true≢false}
use Rattle.std.specs.List.{list_all}
use Rattle.std.proofs.Math.Seq.{drop-append_seam, take-append_seam}
use Rattle.php_lexer.specs.Bytes.{Text, is_in}
use Rattle.php_lexer.specs.Code.{inside}
use Rattle.php_lexer.specs.Pieces.{piece_at}
use Rattle.php_lexer.specs.Marks.{Mark, mark_at}
use Rattle.php_lexer.specs.Tokens as r
use Rattle.php_lexer.specs.Tokens.{simple_kind, Outcome, read, fault, after, Goal, code, front_at, body, body_at, Reads, ends_part}
use Rattle.php_lexer.specs.declared.bytes.Class.TheVariants as class
use Rattle.php_lexer.specs.declared.fault.LexKind.{LexKind}
use Rattle.php_lexer.specs.declared.front.Front.{Front}
use Rattle.php_lexer.specs.declared.front.Front.TheVariants as front
use Rattle.php_lexer.specs.declared.front.Simple.{Simple}
use Rattle.php_lexer.specs.declared.kinds.Kind.TheVariants as kind
use Rattle.php_lexer.specs.declared.kinds.Sign.TheVariants as s
use Rattle.php_lexer.proofs.TokenLaws.{one}
use Rattle.copy_origins.proofs.Fronts.{quote_front, last_front, blank_front, close_piece, plain_piece}

-- ---- one step after another

-- the outcome is these tokens, and then what the goal has
pub record Led (t : Text) (ms : List Mark) (h : Goal) (o : Outcome) : Type 0 where
  pub left : Outcome
  pub reads : Reads t h left
  pub same : o ≡ after ms left

abbrev pub Leads : Text → Goal → List Mark → Goal → Type 0
Leads t g ms h = (o : Outcome) → Reads t g o → Led t ms h o

joined : (a b c : List Mark) → a ++ (b ++ c) ≡ (a ++ b) ++ c
joined [] b c = refl
joined (m ∷ a) b c = ap (λ l. m ∷ l) (joined a b c)

after_both : (ms us : List Mark) (o : Outcome) → after ms (after us o) ≡ after (ms ++ us) o
after_both ms us (read vs end) = ap (λ l. read l end) (joined ms us vs)
after_both ms us (fault p k) = refl

pub then : (t : Text) (g h k : Goal) (ms us : List Mark) → Leads t g ms h → Leads t h us k → Leads t g (ms ++ us) k
then t g h k ms us a b = λ o r.
    let x = a o r in let y = b x.left x.reads in
    record { left = y.left; reads = y.reads; same = x.same ∙ (ap (after ms) y.same ∙ after_both ms us y.left) }

-- ---- places

pub next : (t : Text) (i k : ℕ) (w z : List ℕ) → drop i t ≡ w ++ z → length w ≡ k → drop (i + k) t ≡ z
next t i k w z e n = sym (drop-drop k i t) ∙ (ap (drop k) e ∙ (ap (λ m. drop m (w ++ z)) (sym n) ∙ drop-append_seam w z))

-- ---- the steps

pub front_of : (t : Text) (n q d i : ℕ) (f : Front) (o : Outcome) → inside (drop i t) ≡ f → Reads t (code false n q d i) o → Reads t (front_at f n q d i) o
front_of t n q d i f o e (r.from_front h) = subst (λ f. Reads t (front_at f n q d i) o) e h

token_led : {t : Text} {x : Simple} {n q d i k : ℕ} {o : Outcome} → Reads t (front_at (front.Token x k) n q d i) o → Led t (mark_at t (simple_kind x) i k ∷ []) (code false n q d (i + k)) o
token_led (r.token {o = p} h) = record { left = p; reads = h; same = refl }

pub token_leads : (t : Text) (n q d i k : ℕ) (x : Simple) → inside (drop i t) ≡ front.Token x k
    → Leads t (code false n q d i) (mark_at t (simple_kind x) i k ∷ []) (code false n q d (i + k))
token_leads t n q d i k x e = λ o h. token_led (front_of t n q d i (front.Token x k) o e h)

pub open_led : {t : Text} {n q d i : ℕ} {o : Outcome} → Reads t (front_at front.Open n q d i) o → Led t (mark_at t (kind.Sign s.BraceOpen) i 1 ∷ []) (code false n q (d + 1) (i + 1)) o
open_led (r.open_brace {o = p} h) = record { left = p; reads = h; same = refl }

shut_led : {t : Text} {n q d i : ℕ} {o : Outcome} → ends_part n d ≡ false → Reads t (front_at front.Shut n q d i) o
    → Led t (mark_at t (kind.Sign s.BraceClose) i 1 ∷ []) (code false n q (d - 1) (i + 1)) o
shut_led e (r.shut_brace {o = p} f h) = record { left = p; reads = h; same = refl }
shut_led e (r.last_brace f) = absurd (true≢false (sym f ∙ e))

pub shut_leads : (t : Text) (n q d i : ℕ) (z : List ℕ) → ends_part n d ≡ false → drop i t ≡ 125 ∷ z
    → Leads t (code false n q d i) (mark_at t (kind.Sign s.BraceClose) i 1 ∷ []) (code false n q (d - 1) (i + 1))
shut_leads t n q d i z last e = λ o h. shut_led last (front_of t n q d i front.Shut o (ap inside e ∙ last_front z) h)

pub blank_led : {t : Text} {n q d i k : ℕ} {o : Outcome} → Reads t (front_at (front.Blank k) n q d i) o → Led t [] (code false n q d (i + k)) o
blank_led {o = (read us end)} (r.blank h) = record { left = _; reads = h; same = refl }
blank_led {o = (fault p k)} (r.blank h) = record { left = _; reads = h; same = refl }

stays : {t : Text} {g : Goal} {o : Outcome} → Reads t g o → Led t [] g o
stays {o = (read us end)} h = record { left = _; reads = h; same = refl }
stays {o = (fault p k)} h = record { left = _; reads = h; same = refl }

-- line ends before a closing brace
pub blank_leads : (t : Text) (n q d i : ℕ) (b z : List ℕ) → list_all (is_in class.Space) b ≡ true → drop i t ≡ b ++ (125 ∷ z)
    → Leads t (code false n q d i) [] (code false n q d (i + length b))
blank_leads t n q d i [] z h e = λ o r. let same : i ≡ i + 0 = omega arith in subst (λ j. Led t [] (code false n q d j) o) same (stays r)
blank_leads t n q d i (x ∷ b) z h e = λ o r. blank_led (front_of t n q d i (front.Blank (suc (length b))) o (ap inside e ∙ blank_front x b z h) r)

-- ---- a text in single quotes

closed_at : (t : Text) (n q j : ℕ) (bs z : List ℕ) → drop j t ≡ 39 ∷ z
    → Reads t (body false n q j [] bs []) (read (mark_at t (kind.Text bs) q (j + 1 - q) ∷ []) (j + 1))
closed_at t n q j bs z e = r.from_piece (subst (λ p. Reads t (body_at p false n q j [] bs []) (read (mark_at t (kind.Text bs) q (j + 1 - q) ∷ []) (j + 1))) (sym (ap (piece_at false) e ∙ close_piece z)) r.closed)

-- the one token of the text, and the place after it
abbrev text_read : Text → ℕ → ℕ → List ℕ → Outcome
text_read t q j b = read (mark_at t (kind.Text b) q (j + 1 - q) ∷ []) (j + 1)

body_reads : (t : Text) (n q i : ℕ) (b z : List ℕ) → list_all (is_in class.Single) b ≡ true → drop i t ≡ b ++ (39 ∷ z)
    → Reads t (body false n q i [] [] []) (text_read t q (i + length b) b)
body_reads t n q i [] z h e =
    let same : i ≡ i + 0 = omega arith in subst (λ j. Reads t (body false n q i [] [] []) (text_read t q j [])) same (closed_at t n q i [] z e)
body_reads t n q i (x ∷ b) z h e =
    let bytes : take (suc (length b)) (drop i t) ≡ x ∷ b = ap (take (suc (length b))) e ∙ take-append_seam (x ∷ b) (39 ∷ z) in
    r.from_piece (subst (λ p. Reads t (body_at p false n q i [] [] []) (text_read t q (i + suc (length b)) (x ∷ b))) (sym (ap (piece_at false) e ∙ plain_piece x b z h))
    (r.bytes (subst (λ l. Reads t (body false n q (i + suc (length b)) [] l []) (text_read t q (i + suc (length b)) (x ∷ b))) (sym bytes)
    (closed_at t n q (i + suc (length b)) (x ∷ b) z (next t i (suc (length b)) (x ∷ b) (39 ∷ z) e refl)))))

read_same : {us vs : List Mark} {i j : ℕ} → read us i ≡ read vs j → (us ≡ vs) × (i ≡ j)
read_same e = (cc, cc)

not_fault : {us : List Mark} {i p : ℕ} {k : LexKind} → fault p k ≡ read us i → ⊥
not_fault e = cc

quote_led : {t : Text} {n q d i j : ℕ} {us : List Mark} {o : Outcome} → Reads t (body false n i (i + 1) [] [] []) (read us j) → Reads t (front_at (front.Quote false) n q d i) o
    → Led t us (code false n q d j) o
quote_led {t} {n} {q} {d} {j = j} {us = us} b (r.quoted {us = vs} {o = p} e h m) =
    let same = read_same (one h b) in record { left = p; reads = subst (λ k. Reads t (code false n q d k) p) same.1 m; same = ap (λ l. after l p) same.0 }
quote_led b (r.quoted_fault e h) = absurd (not_fault (one h b))
quote_led b (r.nested e) = absurd (true≢false (sym e))

pub quote_leads : (t : Text) (n q d i : ℕ) (b z : List ℕ) → list_all (is_in class.Single) b ≡ true → drop i t ≡ 39 ∷ (b ++ (39 ∷ z))
    → Leads t (code false n q d i) (mark_at t (kind.Text b) i (i + 1 + length b + 1 - i) ∷ []) (code false n q d (i + 1 + length b + 1))
quote_leads t n q d i b z h e = λ o r.
    quote_led (body_reads t n i (i + 1) b z h (next t i 1 (39 ∷ []) (b ++ (39 ∷ z)) e refl)) (front_of t n q d i (front.Quote false) o (ap inside e ∙ quote_front (b ++ (39 ∷ z))) r)
