-- What a body's bytes are, where they are a placeholder; and bare names.
use Rattle.std.proofs.Common.{◌≡◌, ℕ, ◌+◌, ◌-◌, ◌==◌, Bool, true, false, ◌&&◌, List, [], ◌∷◌, ◌++◌, refl, sym, ap, ◌∙◌, arith, drop, length, nat_eq, true≢false, take-append-drop}
use Rattle.std.specs.Prelude.{codes}
use Rattle.std.specs.List.{list_all, starts_with}
use Rattle.std.specs.Char.{to_ascii_lowercase}
use Rattle.std.specs.Str.{str_to_ascii_lowercase}
use Rattle.std.proofs.lemmas.Bool.{eqb-true}
use Rattle.std.proofs.lemmas.Bool.Decides.{Decides-eqb}
use Rattle.std.proofs.lemmas.Slice.Eq.{starts_is}
use Rattle.std.proofs.lemmas.Grind.{common_steps}
use Rattle.php_lexer.specs.Bytes.{is_in}
use Rattle.php_lexer.specs.declared.bytes.Class.TheVariants as class
use Rattle.php_tree.specs.declared.file.Span.{Span}
use Rattle.php_tree.specs.Functions.{class_prefix}
use Rattle.app_load.specs.Copies.{stub_front, span_text}
use Rattle.app_load.specs.Stubs.{is_stub, is_stub_end}
use Rattle.copy_origins.proofs.Marks.{IsBare, StubAt, function_text}

-- ---- bare names

pub bare_append : (a b : List ℕ) → IsBare a → IsBare b → IsBare (a ++ b)
bare_append [] b p q = q
bare_append (x ∷ a) b p q = grind (arith, common_steps, bare_append a b)

lower_byte : (x : ℕ) → is_in class.Single x ≡ true → is_in class.Single (to_ascii_lowercase x) ≡ true
lower_byte x e = grind (arith, common_steps)

both_true : (c d : Bool) → c && d ≡ true → (c ≡ true) × (d ≡ true)
both_true true d e = (refl, e)
both_true false d e = absurd (true≢false (sym e))

pub bare_lower : (text : List ℕ) → IsBare text → IsBare (str_to_ascii_lowercase text)
bare_lower [] p = refl
bare_lower (x ∷ xs) p =
    let parts = both_true (is_in class.Single x) (list_all (is_in class.Single) xs) p in
    ap (λ b. b && list_all (is_in class.Single) (str_to_ascii_lowercase xs)) (lower_byte x parts.0) ∙ bare_lower xs parts.1

pub bare_class : (name : List ℕ) → IsBare name → IsBare (class_prefix name)
bare_class name p = bare_append (str_to_ascii_lowercase name) (codes "::") (bare_lower name p) refl

-- ---- the bytes of a placeholder

joined : (a b c : List ℕ) → (a ++ b) ++ c ≡ a ++ (b ++ c)
joined [] b c = refl
joined (x ∷ a) b c = ap (λ l. x ∷ l) (joined a b c)

-- line ends, and then the closing brace
record Ended (bytes : List ℕ) : Type 0 where
  lines : List ℕ
  blank : list_all (is_in class.Space) lines ≡ true
  same : bytes ≡ lines ++ (125 ∷ [])

ended : (bytes : List ℕ) → is_stub_end bytes ≡ true → Ended bytes
ended [] e = absurd (true≢false (sym e))
ended (x ∷ []) e = record { lines = []; blank = refl; same = ap (λ y. y ∷ []) (eqb-true x 125 e) }
ended (x ∷ y ∷ rest) e =
    let parts = both_true (x == 10) (is_stub_end (y ∷ rest)) e in let more = ended (y ∷ rest) parts.1 in let is : x ≡ 10 = eqb-true x 10 parts.0 in
    record { lines = 10 ∷ more.lines; blank = more.blank; same = ap (λ z. z ∷ y ∷ rest) is ∙ ap (λ z. 10 ∷ z) more.same }

abbrev close : List ℕ
close = codes "');"

-- the placeholder's bytes, and what stands behind them
stub_text : (path name lines z : List ℕ) → (stub_front path name ++ (lines ++ (125 ∷ []))) ++ z ≡ 123 ∷ function_text path name lines z
stub_text path name lines z =
    let inner : (name ++ close) ++ (lines ++ (125 ∷ z)) ≡ name ++ (39 ∷ 41 ∷ 59 ∷ (lines ++ (125 ∷ z))) = joined name close (lines ++ (125 ∷ z)) in
    let all : (path ++ (codes "','" ++ (name ++ close))) ++ (lines ++ (125 ∷ z)) ≡ path ++ (39 ∷ 44 ∷ 39 ∷ (name ++ (39 ∷ 41 ∷ 59 ∷ (lines ++ (125 ∷ z))))) =
    joined path (codes "','" ++ (name ++ close)) (lines ++ (125 ∷ z)) ∙ ap (λ l. path ++ (39 ∷ 44 ∷ 39 ∷ l)) inner in
    joined (stub_front path name) (lines ++ (125 ∷ [])) z ∙ (ap (λ l. stub_front path name ++ l) (joined lines (125 ∷ []) z) ∙ ap (λ l. codes "{less_removed('function','" ++ l) all)

pub stub_at : (path name text : List ℕ) (at : Span) → is_stub path name (span_text text at) ≡ true → StubAt path name text at.from
stub_at path name text at e =
    let body : List ℕ = span_text text at in
    let parts = both_true (starts_with nat_eq body (stub_front path name)) (is_stub_end (drop (length (stub_front path name)) body)) e in
    let front : body ≡ stub_front path name ++ drop (length (stub_front path name)) body = (starts_is Decides-eqb body (stub_front path name) _ refl).0 parts.0 in
    let end = ended (drop (length (stub_front path name)) body) parts.1 in
    let rest : List ℕ = drop ((at.to + 1) - at.from) (drop at.from text) in
    let whole : body ++ rest ≡ drop at.from text = take-append-drop ((at.to + 1) - at.from) (drop at.from text) in
    record {
      lines = end.lines;
      rest = rest;
      blank = end.blank;
      here = sym whole ∙ (ap (λ l. l ++ rest) (front ∙ ap (λ l. stub_front path name ++ l) end.same) ∙ stub_text path name end.lines rest);
    }
