-- The tokens that the grammar sees: behind the brace that opens a placeholder stand the placeholder's tokens, words are bare, and
-- no more tokens are the word `less_removed` than the text has.
use Rattle.std.proofs.Common.{◌≡◌, ℕ, ◌+◌, ◌≤◌, ◌==◌, Bool, true, false, ◌&&◌, List, [], ◌∷◌, ◌++◌, refl, map, drop, length, ap, sym, subst, ◌∙◌, arith, true≢false, Option, Some, None}
use Rattle.std.specs.Prelude.{codes, ⊤, if◌then◌else◌}
use Rattle.std.specs.List.{list_all}
use Rattle.std.specs.Str.{bytes_eq, str_to_ascii_lowercase}
use Rattle.std.proofs.lemmas.Grind.{common_steps}
use Rattle.php_lexer.specs.Bytes.{is_in}
use Rattle.php_lexer.specs.Marks.{Mark}
use Rattle.php_lexer.specs.declared.bytes.Class.TheVariants as class
use Rattle.php_lexer.specs.declared.kinds.Cast.{Cast}
use Rattle.php_lexer.specs.declared.kinds.Cast.TheVariants as cast
use Rattle.php_lexer.specs.declared.kinds.Kind as lexer
use Rattle.php_lexer.specs.declared.kinds.Kind.TheVariants as kind
use Rattle.php_lexer.specs.declared.kinds.Sign.{Sign}
use Rattle.php_lexer.specs.declared.kinds.Sign.TheVariants as s
use Rattle.php_grammar.specs.declared.lexeme.Lexeme.{Lexeme}
use Rattle.php_grammar.specs.declared.token.Kind.{Kind}
use Rattle.php_grammar.specs.declared.token.Kind.TheVariants as k
use Rattle.php_grammar.specs.declared.token.Detail.TheVariants as d
use Rattle.php_grammar.specs.Kinds.{code, holds, words}
use Rattle.php_lexemes.specs.Words.{Sort, word_sort}
use Rattle.php_lexemes.specs.Signs.{cast_sort}
use Rattle.php_lexemes.specs.Names.{Name}
use Rattle.php_lexemes.specs.Lexemes.{Open, closing, brace_opened, sign_in, var_sort, quote_sort, embedded, kind_opened, lexeme_of, lexemes_from, open_after}
use Rattle.app_load.specs.Stubs.{is_word, is_reserved, first_stray}
use Rattle.plain_names.proofs.Fronts.{AreWordBytes}
use Rattle.plain_names.proofs.Tokens.{MarkBy, MarksPlain}
use Rattle.copy_origins.proofs.Marks.{IsBare, StubAt, Starts, StubMarks, file_kinds, function_kinds, Followed, AllFollowed}
use Rattle.copy_origins.proofs.Words as w
use Rattle.copy_origins.proofs.Words.{is_removed}

-- ---- tokens by their kinds

abbrev pub Form : Type 0
Form = Kind × Option (List ℕ)

abbrev pub Says : Option (List ℕ) → List ℕ → Type 0
Says None text = ⊤
Says (Some said) text = text ≡ said

abbrev pub HasForm : Form → Lexeme → Type 0
HasForm f l = (l.kind ≡ f.0) × Says f.1 l.text

abbrev pub Looks : List Form → List Lexeme → Type 0
Looks [] ls = ⊤
Looks (f ∷ fs) [] = ⊥
Looks (f ∷ fs) (l ∷ ls) = HasForm f l × Looks fs ls

abbrev pub file_forms : List ℕ → List Form
file_forms path = (k.Removed, None) ∷ (k.ParenOpen, None) ∷ (k.Text, Some (codes "file")) ∷ (k.Comma, None) ∷ (k.Text, Some path) ∷ (k.ParenClose, None) ∷ (k.Semi, None) ∷ (k.End, None) ∷ []

abbrev pub function_forms : List ℕ → List ℕ → List Form
function_forms path name =
    (k.Removed, None) ∷ (k.ParenOpen, None) ∷ (k.Text, Some (codes "function")) ∷ (k.Comma, None) ∷ (k.Text, Some path) ∷ (k.Comma, None) ∷ (k.Text, Some name)
    ∷ (k.ParenClose, None) ∷ (k.Semi, None) ∷ (k.BraceClose, None) ∷ []

abbrev IsPlainKind : lexer.Kind → Type 0
IsPlainKind (kind.Sign s.ParenOpen) = ⊤
IsPlainKind (kind.Sign s.ParenClose) = ⊤
IsPlainKind (kind.Sign s.Comma) = ⊤
IsPlainKind (kind.Sign s.Semicolon) = ⊤
IsPlainKind (kind.Text bytes) = ⊤
IsPlainKind kind = ⊥

abbrev ArePlainKinds : List lexer.Kind → Type 0
ArePlainKinds [] = ⊤
ArePlainKinds (kind ∷ ks) = IsPlainKind kind × ArePlainKinds ks

abbrev form_of : lexer.Kind → Form
form_of (kind.Sign s.ParenOpen) = (k.ParenOpen, None)
form_of (kind.Sign s.ParenClose) = (k.ParenClose, None)
form_of (kind.Sign s.Comma) = (k.Comma, None)
form_of (kind.Text bytes) = (k.Text, Some bytes)
form_of kind = (k.Semi, None)

module _ (names : List Name) where
  has_form : (around : List Open) (m : Mark) (kind : lexer.Kind) → IsPlainKind kind → HasForm (form_of kind) (lexeme_of names around m kind)
  has_form around m (kind.Sign s.ParenOpen) p = (refl, tt {0})
  has_form around m (kind.Sign s.ParenClose) p = (refl, tt {0})
  has_form around m (kind.Sign s.Comma) p = (refl, tt {0})
  has_form around m (kind.Sign s.Semicolon) p = (refl, tt {0})
  has_form around m (kind.Text bytes) p = (refl, refl)
  has_form around m kind p = absurd p

  same_open : (around : List Open) (kind : lexer.Kind) → IsPlainKind kind → kind_opened around kind ≡ around
  same_open around (kind.Sign s.ParenOpen) p = refl
  same_open around (kind.Sign s.ParenClose) p = refl
  same_open around (kind.Sign s.Comma) p = refl
  same_open around (kind.Sign s.Semicolon) p = refl
  same_open around (kind.Text bytes) p = refl
  same_open around kind p = absurd p

  starts_look : (around : List Open) (last : lexer.Kind) (f : Form) → ((m : Mark) → HasForm f (lexeme_of names around m last)) → (ks : List lexer.Kind) → ArePlainKinds ks
      → (ms : List Mark) → Starts (ks ++ last ∷ []) ms → Looks (map form_of ks ++ f ∷ []) (lexemes_from names around ms)
  starts_look around last f ends [] p [] h = absurd h
  starts_look around last f ends [] p (m ∷ ms) h = (subst (λ x. HasForm f (lexeme_of names around m x)) (sym h.0) (ends m), tt {0})
  starts_look around last f ends (kind ∷ ks) p [] h = absurd h
  starts_look around last f ends (kind ∷ ks) p (m ∷ ms) h = (
    subst (λ x. HasForm (form_of kind) (lexeme_of names around m x)) (sym h.0) (has_form around m kind p.0),
    subst (λ o. Looks (map form_of ks ++ f ∷ []) (lexemes_from names o ms)) (sym (ap (kind_opened around) h.0 ∙ same_open around kind p.0)) (starts_look around last f ends ks p.1 ms h.1),
  )

  word_form : (around : List Open) (m : Mark) → m.text ≡ codes "less_removed" → HasForm (k.Removed, None) (lexeme_of names around m kind.Word)
  unfolding word_sort
  word_form around m e = (ap (λ text. (word_sort text).0) e, tt {0})

  stub_looks : (around : List Open) (last : lexer.Kind) (f : Form) → ((m : Mark) → HasForm f (lexeme_of names around m last)) → (ks : List lexer.Kind) → ArePlainKinds ks
      → (ms : List Mark) → StubMarks (ks ++ last ∷ []) ms → Looks ((k.Removed, None) ∷ (map form_of ks ++ f ∷ [])) (lexemes_from names around ms)
  stub_looks around last f ends ks p [] h = absurd h
  stub_looks around last f ends ks p (m ∷ ms) h = (
    subst (λ x. HasForm (k.Removed, None) (lexeme_of names around m x)) (sym h.0.0) (word_form around m h.0.1),
    subst (λ o. Looks (map form_of ks ++ f ∷ []) (lexemes_from names o ms)) (sym (ap (kind_opened around) h.0.0)) (starts_look around last f ends ks p ms h.1),
  )

  closes : (around : List Open) → (closing (brace_opened around)).0 ≡ k.BraceClose
  closes [] = refl
  closes (o ∷ around) = grind (arith, common_steps)

  pub file_looks : (path : List ℕ) (ms : List Mark) → StubMarks (file_kinds path) ms → Looks (file_forms path) (lexemes_from names [] ms)
  file_looks path ms h =
      stub_looks [] kind.End (k.End, None) (λ m. (refl, tt {0}))
      (kind.Sign s.ParenOpen ∷ kind.Text (codes "file") ∷ kind.Sign s.Comma ∷ kind.Text path ∷ kind.Sign s.ParenClose ∷ kind.Sign s.Semicolon ∷ [])
      (tt {0}, (tt {0}, (tt {0}, (tt {0}, (tt {0}, (tt {0}, tt {0})))))) ms h

  function_looks : (around : List Open) (path name : List ℕ) (ms : List Mark) → StubMarks (function_kinds path name) ms → Looks (function_forms path name) (lexemes_from names (brace_opened around) ms)
  function_looks around path name ms h =
      stub_looks (brace_opened around) (kind.Sign s.BraceClose) (k.BraceClose, None) (λ m. (closes around, tt {0}))
      (kind.Sign s.ParenOpen ∷ kind.Text (codes "function") ∷ kind.Sign s.Comma ∷ kind.Text path ∷ kind.Sign s.Comma ∷ kind.Text name ∷ kind.Sign s.ParenClose ∷ kind.Sign s.Semicolon ∷ [])
      (tt {0}, (tt {0}, (tt {0}, (tt {0}, (tt {0}, (tt {0}, (tt {0}, (tt {0}, tt {0})))))))) ms h

-- ---- what holds of each token

-- a token that may be a name is bare
abbrev pub BareBy : Kind → List ℕ → Type 0
BareBy kind text = holds (code kind) words ≡ true → IsBare text

-- behind a brace where the text has a placeholder stand the placeholder's tokens
abbrev pub OpensBy : List ℕ → List ℕ → Kind → ℕ → List Lexeme → Type 0
OpensBy path text kind at ls = kind ≡ k.BraceOpen → (name : List ℕ) → IsBare name → StubAt path name text at → Looks (function_forms path name) ls

abbrev pub AreGood : List ℕ → List ℕ → List Lexeme → Type 0
AreGood path text [] = ⊤
AreGood path text (l ∷ ls) = (BareBy l.kind l.text × OpensBy path text l.kind l.at ls) × AreGood path text ls

bare_byte : (x : ℕ) → is_in class.Word x ≡ true → is_in class.Single x ≡ true
bare_byte x e = grind (arith, common_steps)

both_true : (c d : Bool) → c && d ≡ true → (c ≡ true) × (d ≡ true)
both_true true d e = (refl, e)
both_true false d e = absurd (true≢false (sym e))

bare_word : (text : List ℕ) → AreWordBytes text → IsBare text
bare_word [] h = refl
bare_word (x ∷ xs) h =
    let parts = both_true (is_in class.Word x) (list_all (is_in class.Word) xs) h in
    ap (λ b. b && list_all (is_in class.Single) xs) (bare_byte x parts.0) ∙ bare_word xs parts.1

-- no name is of this sort
abbrev IsNoName : Kind → Type 0
IsNoName kind = holds (code kind) words ≡ false

no_name : (kind : Kind) (text : List ℕ) → IsNoName kind → BareBy kind text
no_name kind text n e = absurd (true≢false (sym e ∙ n))

either_no : (c : Bool) (x y : Sort) → IsNoName x.0 → IsNoName y.0 → IsNoName (if c then x else y).0
either_no true x y p q = p
either_no false x y p q = q

cast_no : (c : Cast) → IsNoName (cast_sort c).0
cast_no cast.Int = refl
cast_no c = refl

closing_no : (around : List Open) → IsNoName (closing around).0
closing_no [] = refl
closing_no (o ∷ around) =
    either_no (o.braces == 0) (if o.left == 0 then (k.QuoteClose, d.Only) else (k.QuoteNext, d.Only)) (k.BraceClose, d.Only)
    (either_no (o.left == 0) (k.QuoteClose, d.Only) (k.QuoteNext, d.Only) refl refl) refl

sign_no : (around : List Open) (x : Sign) → IsNoName (sign_in around x).0
sign_no around s.BraceClose = closing_no around
sign_no around s.Semicolon = refl
sign_no around x = refl

-- ---- how many tokens are the word

abbrev pub one_if : Bool → ℕ
one_if true = 1
one_if false = 0

abbrev pub weigh : Kind → ℕ
weigh kind = one_if (is_removed kind)

abbrev pub weight_of : List Lexeme → ℕ
weight_of [] = 0
weight_of (l ∷ ls) = weigh l.kind + weight_of ls

abbrev pub reserved_count : List Mark → ℕ
reserved_count [] = 0
reserved_count (m ∷ ms) = one_if (is_reserved m) + reserved_count ms

one_at_most : (c : Bool) → one_if c ≤ 1
one_at_most true = omega arith
one_at_most false = omega arith

none_weighs : (c : Bool) (n : ℕ) → c ≡ false → one_if c ≤ n
none_weighs true n e = absurd (true≢false e)
none_weighs false n e = omega arith

either_weighs : (c : Bool) (x y : Sort) → is_removed x.0 ≡ false → is_removed y.0 ≡ false → is_removed (if c then x else y).0 ≡ false
either_weighs true x y p q = p
either_weighs false x y p q = q

cast_weighs : (c : Cast) → is_removed (cast_sort c).0 ≡ false
cast_weighs cast.Int = refl
cast_weighs c = refl

closing_weighs : (around : List Open) → is_removed (closing around).0 ≡ false
closing_weighs [] = refl
closing_weighs (o ∷ around) =
    either_weighs (o.braces == 0) (if o.left == 0 then (k.QuoteClose, d.Only) else (k.QuoteNext, d.Only)) (k.BraceClose, d.Only)
    (either_weighs (o.left == 0) (k.QuoteClose, d.Only) (k.QuoteNext, d.Only) refl refl) refl

sign_weighs : (around : List Open) (x : Sign) → is_removed (sign_in around x).0 ≡ false
sign_weighs around s.BraceClose = closing_weighs around
sign_weighs around s.Semicolon = refl
sign_weighs around x = refl

word_weighs : (text : List ℕ) (c : Bool) → bytes_eq (str_to_ascii_lowercase text) (codes "less_removed") ≡ c → one_if (is_removed (word_sort text).0) ≤ one_if c
word_weighs text true e = one_at_most (is_removed (word_sort text).0)
word_weighs text false e = none_weighs (is_removed (word_sort text).0) 0 (w.word_is text e)

module _ (names : List Name) where
  lexeme_bare : (around : List Open) (m : Mark) (kind : lexer.Kind) → MarkBy kind m.text → BareBy (lexeme_of names around m kind).kind (lexeme_of names around m kind).text
  lexeme_bare around m kind.Inline p = no_name k.Inline m.text refl
  lexeme_bare around m kind.Echo p = no_name k.EchoTag m.text refl
  lexeme_bare around m kind.Var p = no_name (var_sort (drop 1 m.text)).0 (drop 1 m.text) (either_no (bytes_eq (drop 1 m.text) (codes "this")) (k.This, d.Only) (k.Var, d.Only) refl refl)
  lexeme_bare around m kind.Word p = λ e. bare_word m.text p
  lexeme_bare around m (kind.Int n) p = no_name k.Int m.text refl
  lexeme_bare around m (kind.Text bytes) p = no_name k.Text bytes refl
  lexeme_bare around m (kind.Quote parts) p = no_name (quote_sort parts).0 m.text (either_no (embedded parts == 0) (k.Quote, d.Only) (k.QuoteOpen, d.Only) refl refl)
  lexeme_bare around m (kind.Cast c) p = no_name (cast_sort c).0 m.text (cast_no c)
  lexeme_bare around m (kind.Sign x) p = no_name (sign_in around x).0 m.text (sign_no around x)
  lexeme_bare around m kind.End p = no_name k.End m.text refl

  lexeme_weighs : (around : List Open) (m : Mark) (kind : lexer.Kind) → weigh (lexeme_of names around m kind).kind ≤ one_if (is_word kind && bytes_eq (str_to_ascii_lowercase m.text) (codes "less_removed"))
  lexeme_weighs around m kind.Inline = omega arith
  lexeme_weighs around m kind.Echo = omega arith
  lexeme_weighs around m kind.Var = none_weighs _ _ (either_weighs (bytes_eq (drop 1 m.text) (codes "this")) (k.This, d.Only) (k.Var, d.Only) refl refl)
  lexeme_weighs around m kind.Word = word_weighs m.text (bytes_eq (str_to_ascii_lowercase m.text) (codes "less_removed")) refl
  lexeme_weighs around m (kind.Int n) = omega arith
  lexeme_weighs around m (kind.Text bytes) = omega arith
  lexeme_weighs around m (kind.Quote parts) = none_weighs _ _ (either_weighs (embedded parts == 0) (k.Quote, d.Only) (k.QuoteOpen, d.Only) refl refl)
  lexeme_weighs around m (kind.Cast c) = none_weighs _ _ (cast_weighs c)
  lexeme_weighs around m (kind.Sign x) = none_weighs _ _ (sign_weighs around x)
  lexeme_weighs around m kind.End = omega arith

  pub lexemes_weigh : (around : List Open) (ms : List Mark) → weight_of (lexemes_from names around ms) ≤ reserved_count ms
  lexemes_weigh around [] = omega arith
  lexemes_weigh around (m ∷ ms) = let a = lexeme_weighs around m m.kind in let b = lexemes_weigh (open_after around m) ms in omega arith

  module _ (path : List ℕ) (p : IsBare path) (text : List ℕ) where
    lexeme_opens : (around : List Open) (m : Mark) (kind : lexer.Kind) (ms : List Mark) → Followed path p text kind m.at ms
        → OpensBy path text (lexeme_of names around m kind).kind (lexeme_of names around m kind).at (lexemes_from names (kind_opened around kind) ms)
    lexeme_opens around m (kind.Sign s.BraceOpen) ms f = λ e name b here. function_looks names around path name ms (f name b here)
    lexeme_opens around m kind.Inline ms f = λ e name b here. absurd cc
    lexeme_opens around m kind.Echo ms f = λ e name b here. absurd cc
    lexeme_opens around m kind.End ms f = λ e name b here. absurd cc
    lexeme_opens around m kind.Var ms f = λ e name b here. absurd (f name here)
    lexeme_opens around m kind.Word ms f = λ e name b here. absurd (f name here)
    lexeme_opens around m (kind.Int n) ms f = λ e name b here. absurd (f name here)
    lexeme_opens around m (kind.Text bytes) ms f = λ e name b here. absurd (f name here)
    lexeme_opens around m (kind.Quote parts) ms f = λ e name b here. absurd (f name here)
    lexeme_opens around m (kind.Cast c) ms f = λ e name b here. absurd (f name here)
    lexeme_opens around m (kind.Sign x) ms f = λ e name b here. absurd (f name here)

    pub lexemes_good : (around : List Open) (ms : List Mark) → MarksPlain ms → AllFollowed path p text ms → AreGood path text (lexemes_from names around ms)
    lexemes_good around [] plain f = tt {0}
    lexemes_good around (m ∷ ms) plain f = ((lexeme_bare around m m.kind plain.0, lexeme_opens around m m.kind ms f.0), lexemes_good (open_after around m) ms plain.1 f.1)

-- ---- words and places

by_place : (c d : Bool) (m : Mark) (x y : Option Mark) (n k : ℕ) → (if c then (if d then x else Some m) else y) ≡ None → (x ≡ None → n ≤ k) → (y ≡ None → n ≤ k + 1) → one_if c + n ≤ k + 1
by_place true true m x y n k e p q = let a = p e in omega arith
by_place true false m x y n k e p q = absurd cc
by_place false d m x y n k e p q = let a = q e in omega arith

by_none : (c : Bool) (m : Mark) (x : Option Mark) (n : ℕ) → (if c then Some m else x) ≡ None → (x ≡ None → n ≤ 0) → one_if c + n ≤ 0
by_none true m x n e p = absurd cc
by_none false m x n e p = let a = p e in omega arith

-- where no word is out of its place, there are no more words than places
pub stray_few : (places : List ℕ) (ms : List Mark) → first_stray places ms ≡ None → reserved_count ms ≤ length places
stray_few places [] e = omega arith
stray_few [] (m ∷ ms) e = by_none (is_reserved m) m (first_stray [] ms) (reserved_count ms) e (stray_few [] ms)
stray_few (p ∷ places) (m ∷ ms) e =
    let a = by_place (is_reserved m) (m.at == p) m (first_stray places ms) (first_stray (p ∷ places) ms) (reserved_count ms) (length places) e (stray_few places ms)
    (λ f. let b = stray_few (p ∷ places) ms f in omega arith) in omega arith
