-- The tokens of a text: behind the brace that opens a placeholder stand the placeholder's tokens, and a word is of word bytes.
use Rattle.std.proofs.Common.{◌≡◌, ℕ, ◌+◌, ◌-◌, true, false, List, [], ◌∷◌, ◌++◌, refl, drop, take, length, ap, sym, subst, ◌∙◌, arith}
use Rattle.std.specs.Prelude.{codes, ⊤}
use Rattle.std.specs.List.{list_all}
use Rattle.std.proofs.Math.Seq.{take-append_seam}
use Rattle.std.proofs.lemmas.Grind.{common_steps}
use Rattle.php_lexer.specs.Bytes.{Text, is_in}
use Rattle.php_lexer.specs.Code.{inside}
use Rattle.php_lexer.specs.Texts.{kind_of}
use Rattle.php_lexer.specs.Marks.{Mark, mark_at}
use Rattle.php_lexer.specs.Tokens as r
use Rattle.php_lexer.specs.Tokens.{simple_kind, Outcome, read, fault, after, Goal, code, outer_at, front_at, body, body_at, Reads, IsTokens, ends_part}
use Rattle.php_lexer.specs.declared.bytes.Class.TheVariants as class
use Rattle.php_lexer.specs.declared.front.Front.{Front}
use Rattle.php_lexer.specs.declared.front.Front.TheVariants as front
use Rattle.php_lexer.specs.declared.front.Simple.TheVariants as simple
use Rattle.php_lexer.specs.declared.kinds.Kind.{Kind}
use Rattle.php_lexer.specs.declared.kinds.Kind.TheVariants as kind
use Rattle.php_lexer.specs.declared.kinds.Sign.TheVariants as s
use Rattle.copy_origins.proofs.Fronts.{word_front, open_front, comma_front, shut_front, semi_front, brace_front}
use Rattle.copy_origins.proofs.Steps.{Led, Leads, then, next, token_leads, shut_leads, blank_leads, quote_leads}

-- ---- what stands in a text

-- bytes that stand for themselves in single quotes
abbrev pub IsBare : List ℕ → Type 0
IsBare text = list_all (is_in class.Single) text ≡ true

abbrev pub opening_text : List ℕ → List ℕ → List ℕ → List ℕ
opening_text what path z = codes "less_removed" ++ (40 ∷ 39 ∷ (what ++ (39 ∷ 44 ∷ 39 ∷ (path ++ (39 ∷ z)))))

-- a placeholder behind its brace, and what stands behind it
abbrev pub function_text : List ℕ → List ℕ → List ℕ → List ℕ → List ℕ
function_text path name lines z = opening_text (codes "function") path (44 ∷ 39 ∷ (name ++ (39 ∷ 41 ∷ 59 ∷ (lines ++ (125 ∷ z)))))

-- the placeholder of a function, from its opening brace
pub record StubAt (path name text : List ℕ) (at : ℕ) : Type 0 where
  pub lines : List ℕ
  pub rest : List ℕ
  pub blank : list_all (is_in class.Space) lines ≡ true
  pub here : drop at text ≡ 123 ∷ function_text path name lines rest

-- ---- tokens by their kinds

abbrev pub Starts : List Kind → List Mark → Type 0
Starts [] ms = ⊤
Starts (k ∷ ks) [] = ⊥
Starts (k ∷ ks) (m ∷ ms) = (m.kind ≡ k) × Starts ks ms

-- the word `less_removed`, and then tokens of these kinds
abbrev pub StubMarks : List Kind → List Mark → Type 0
StubMarks ks [] = ⊥
StubMarks ks (m ∷ ms) = ((m.kind ≡ kind.Word) × (m.text ≡ codes "less_removed")) × Starts ks ms

abbrev pub file_kinds : List ℕ → List Kind
file_kinds path = kind.Sign s.ParenOpen ∷ kind.Text (codes "file") ∷ kind.Sign s.Comma ∷ kind.Text path ∷ kind.Sign s.ParenClose ∷ kind.Sign s.Semicolon ∷ kind.End ∷ []

abbrev pub function_kinds : List ℕ → List ℕ → List Kind
function_kinds path name = kind.Sign s.ParenOpen ∷ kind.Text (codes "function") ∷ kind.Sign s.Comma ∷ kind.Text path ∷ kind.Sign s.Comma ∷ kind.Text name ∷ kind.Sign s.ParenClose ∷ kind.Sign s.Semicolon ∷ kind.Sign s.BraceClose ∷ []

starts_more : (ks : List Kind) (ms us : List Mark) → Starts ks ms → Starts ks (ms ++ us)
starts_more [] ms us h = tt {0}
starts_more (k ∷ ks) [] us h = absurd h
starts_more (k ∷ ks) (m ∷ ms) us h = (h.0, starts_more ks ms us h.1)

stub_more : (ks : List Kind) (ms us : List Mark) → StubMarks ks ms → StubMarks ks (ms ++ us)
stub_more ks [] us h = absurd h
stub_more ks (m ∷ ms) us h = (h.0, starts_more ks ms us h.1)

-- ---- what is read of a placeholder

abbrev pub past : ℕ → List ℕ → ℕ
past i b = i + 1 + length b + 1

past_text : (t : Text) (i : ℕ) (b z : List ℕ) → drop i t ≡ 39 ∷ (b ++ (39 ∷ z)) → drop (past i b) t ≡ z
past_text t i b z e = next t (i + 1 + length b) 1 (39 ∷ []) z (next t (i + 1) (length b) b (39 ∷ z) (next t i 1 (39 ∷ []) (b ++ (39 ∷ z)) e refl) refl) refl

abbrev pub text_mark : Text → ℕ → List ℕ → Mark
text_mark t i b = mark_at t (kind.Text b) i (i + 1 + length b + 1 - i)

abbrev pub opening_marks : Text → ℕ → List ℕ → List ℕ → List Mark
opening_marks t i what path =
    mark_at t kind.Word i 12 ∷ mark_at t (kind.Sign s.ParenOpen) (i + 12) 1 ∷ text_mark t (i + 12 + 1) what
    ∷ mark_at t (kind.Sign s.Comma) (past (i + 12 + 1) what) 1 ∷ text_mark t (past (i + 12 + 1) what + 1) path ∷ []

abbrev pub opened_end : ℕ → List ℕ → List ℕ → ℕ
opened_end i what path = past (past (i + 12 + 1) what + 1) path

module _ (t : Text) (n q d i : ℕ) (what path z : List ℕ) (e : drop i t ≡ opening_text what path z) where
  at_paren : drop (i + 12) t ≡ 40 ∷ 39 ∷ (what ++ (39 ∷ 44 ∷ 39 ∷ (path ++ (39 ∷ z))))
  at_paren = next t i 12 (codes "less_removed") (40 ∷ 39 ∷ (what ++ (39 ∷ 44 ∷ 39 ∷ (path ++ (39 ∷ z))))) e refl

  at_what : drop (i + 12 + 1) t ≡ 39 ∷ (what ++ (39 ∷ 44 ∷ 39 ∷ (path ++ (39 ∷ z))))
  at_what = next t (i + 12) 1 (40 ∷ []) (39 ∷ (what ++ (39 ∷ 44 ∷ 39 ∷ (path ++ (39 ∷ z))))) at_paren refl

  at_comma : drop (past (i + 12 + 1) what) t ≡ 44 ∷ 39 ∷ (path ++ (39 ∷ z))
  at_comma = past_text t (i + 12 + 1) what (44 ∷ 39 ∷ (path ++ (39 ∷ z))) at_what

  at_path : drop (past (i + 12 + 1) what + 1) t ≡ 39 ∷ (path ++ (39 ∷ z))
  at_path = next t (past (i + 12 + 1) what) 1 (44 ∷ []) (39 ∷ (path ++ (39 ∷ z))) at_comma refl

  pub opened_rest : drop (opened_end i what path) t ≡ z
  opened_rest = past_text t (past (i + 12 + 1) what + 1) path z at_path

  pub word_text : (mark_at t kind.Word i 12).text ≡ codes "less_removed"
  word_text = ap (take 12) e ∙ take-append_seam (codes "less_removed") (40 ∷ 39 ∷ (what ++ (39 ∷ 44 ∷ 39 ∷ (path ++ (39 ∷ z)))))

  pub opening : IsBare what → IsBare path → Leads t (code false n q d i) (opening_marks t i what path) (code false n q d (opened_end i what path))
  opening w p =
      then t _ _ _ _ _ (token_leads t n q d i 12 simple.Word (ap inside e ∙ word_front (39 ∷ (what ++ (39 ∷ 44 ∷ 39 ∷ (path ++ (39 ∷ z)))))))
      (then t _ _ _ _ _ (token_leads t n q d (i + 12) 1 (simple.Sign s.ParenOpen) (ap inside at_paren ∙ open_front (what ++ (39 ∷ 44 ∷ 39 ∷ (path ++ (39 ∷ z))))))
      (then t _ _ _ _ _ (quote_leads t n q d (i + 12 + 1) what (44 ∷ 39 ∷ (path ++ (39 ∷ z))) w at_what)
      (then t _ _ _ _ _ (token_leads t n q d (past (i + 12 + 1) what) 1 (simple.Sign s.Comma) (ap inside at_comma ∙ comma_front (path ++ (39 ∷ z))))
      (quote_leads t n q d (past (i + 12 + 1) what + 1) path z p at_path))))

-- the tokens of what was read begin with these
pub record Fronted (ms us : List Mark) : Type 0 where
  pub others : List Mark
  pub same : us ≡ ms ++ others

by_left : (ms us : List Mark) (end : ℕ) (o : Outcome) → read us end ≡ after ms o → Fronted ms us
by_left ms us end (read vs e) same = record { others = vs; same = cc }
by_left ms us end (fault p k) same = absurd cc

pub led_marks : {t : Text} {ms us : List Mark} {h : Goal} {end : ℕ} → Led t ms h (read us end) → Fronted ms us
led_marks {ms = ms} {us = us} {end = end} l = by_left ms us end l.left l.same

module _ (t : Text) (n q d i : ℕ) (path name lines z : List ℕ) (e : drop i t ≡ function_text path name lines z) (p : IsBare path) (b : IsBare name)
    (blank : list_all (is_in class.Space) lines ≡ true) (inner : ends_part n d ≡ false) where
  abbrev tail : List ℕ
  tail = 39 ∷ (name ++ (39 ∷ 41 ∷ 59 ∷ (lines ++ (125 ∷ z))))

  abbrev j : ℕ
  j = opened_end i (codes "function") path

  at_second : drop j t ≡ 44 ∷ tail
  at_second = opened_rest t n q d i (codes "function") path (44 ∷ tail) e

  at_name : drop (j + 1) t ≡ tail
  at_name = next t j 1 (44 ∷ []) tail at_second refl

  at_shut : drop (past (j + 1) name) t ≡ 41 ∷ 59 ∷ (lines ++ (125 ∷ z))
  at_shut = past_text t (j + 1) name (41 ∷ 59 ∷ (lines ++ (125 ∷ z))) at_name

  at_semi : drop (past (j + 1) name + 1) t ≡ 59 ∷ (lines ++ (125 ∷ z))
  at_semi = next t (past (j + 1) name) 1 (41 ∷ []) (59 ∷ (lines ++ (125 ∷ z))) at_shut refl

  at_lines : drop (past (j + 1) name + 1 + 1) t ≡ lines ++ (125 ∷ z)
  at_lines = next t (past (j + 1) name + 1) 1 (59 ∷ []) (lines ++ (125 ∷ z)) at_semi refl

  at_end : drop (past (j + 1) name + 1 + 1 + length lines) t ≡ 125 ∷ z
  at_end = next t (past (j + 1) name + 1 + 1) (length lines) lines (125 ∷ z) at_lines refl

  abbrev closing_marks : List Mark
  closing_marks =
      mark_at t (kind.Sign s.Comma) j 1 ∷ text_mark t (j + 1) name ∷ mark_at t (kind.Sign s.ParenClose) (past (j + 1) name) 1
      ∷ mark_at t (kind.Sign s.Semicolon) (past (j + 1) name + 1) 1 ∷ mark_at t (kind.Sign s.BraceClose) (past (j + 1) name + 1 + 1 + length lines) 1 ∷ []

  closing : Leads t (code false n q d j) closing_marks (code false n q (d - 1) (past (j + 1) name + 1 + 1 + length lines + 1))
  closing =
      then t _ _ _ _ _ (token_leads t n q d j 1 (simple.Sign s.Comma) (ap inside at_second ∙ comma_front (name ++ (39 ∷ 41 ∷ 59 ∷ (lines ++ (125 ∷ z))))))
      (then t _ _ _ _ _ (quote_leads t n q d (j + 1) name (41 ∷ 59 ∷ (lines ++ (125 ∷ z))) b at_name)
      (then t _ _ _ _ _ (token_leads t n q d (past (j + 1) name) 1 (simple.Sign s.ParenClose) (ap inside at_shut ∙ shut_front (59 ∷ (lines ++ (125 ∷ z)))))
      (then t _ _ _ _ _ (token_leads t n q d (past (j + 1) name + 1) 1 (simple.Sign s.Semicolon) (ap inside at_semi ∙ semi_front (lines ++ (125 ∷ z))))
      (then t _ _ _ _ _ (blank_leads t n q d (past (j + 1) name + 1 + 1) lines z blank at_lines)
      (shut_leads t n q d (past (j + 1) name + 1 + 1 + length lines) z inner at_end)))))

  stub_read : {us : List Mark} {end : ℕ} → Reads t (code false n q d i) (read us end) → StubMarks (function_kinds path name) us
  stub_read {us} {end} r =
      let whole = then t _ _ _ _ _ (opening t n q d i (codes "function") path (44 ∷ tail) e refl p) closing in
      let f = led_marks (whole (read us end) r) in
      subst (StubMarks (function_kinds path name)) (sym f.same) ((refl, word_text t n q d i (codes "function") path (44 ∷ tail) e), (refl, (refl, (refl, (refl, (refl, (refl, (refl, (refl, (refl, tt {0}))))))))))

-- ---- tokens that are followed by what they are to be followed by

module _ (path : List ℕ) (p : IsBare path) where
  abbrev pub Followed : Text → Kind → ℕ → List Mark → Type 0
  Followed t kind.Inline at ms = ⊤
  Followed t kind.Echo at ms = ⊤
  Followed t kind.End at ms = ⊤
  Followed t (kind.Sign s.BraceOpen) at ms = (name : List ℕ) → IsBare name → StubAt path name t at → StubMarks (function_kinds path name) ms
  Followed t k at ms = (name : List ℕ) → StubAt path name t at → ⊥

  abbrev pub AllFollowed : Text → List Mark → Type 0
  AllFollowed t [] = ⊤
  AllFollowed t (m ∷ ms) = Followed t m.kind m.at ms × AllFollowed t ms

  followed_more : (t : Text) (k : Kind) (at : ℕ) (ms us : List Mark) → Followed t k at ms → Followed t k at (ms ++ us)
  followed_more t (kind.Sign s.BraceOpen) at ms us h = λ name b here. stub_more (function_kinds path name) ms us (h name b here)
  followed_more t kind.Inline at ms us h = tt {0}
  followed_more t kind.Echo at ms us h = tt {0}
  followed_more t kind.End at ms us h = tt {0}
  followed_more t k at ms us h = h

  both : (t : Text) (ms us : List Mark) → AllFollowed t ms → AllFollowed t us → AllFollowed t (ms ++ us)
  both t [] us a b = b
  both t (m ∷ ms) us a b = (followed_more t m.kind m.at ms us a.0, both t ms us a.1 b)

  unbraced : (t : Text) (k : Kind) (at : ℕ) (ms : List Mark) → ((name : List ℕ) → StubAt path name t at → ⊥) → Followed t k at ms
  unbraced t (kind.Sign s.BraceOpen) at ms never = λ name b here. absurd (never name here)
  unbraced t kind.Inline at ms never = tt {0}
  unbraced t kind.Echo at ms never = tt {0}
  unbraced t kind.End at ms never = tt {0}
  unbraced t k at ms never = never

  no_brace : (t : Text) (at : ℕ) (f : Front) → f ≡ inside (drop at t) → (f ≡ front.Open → ⊥) → (name : List ℕ) → StubAt path name t at → ⊥
  no_brace t at f e other name here = other (e ∙ (ap inside here.here ∙ brace_front (function_text path name here.lines here.rest)))

  abbrev OutcomeFact : Text → Outcome → Type 0
  OutcomeFact t (read ms end) = AllFollowed t ms
  OutcomeFact t (fault place k) = ⊤

  abbrev GoalFact : Text → Goal → Type 0
  GoalFact t (front_at f n q d i) = f ≡ inside (drop i t)
  GoalFact t (body x n q i ps bs us) = AllFollowed t us × (front.Quote x ≡ inside (drop q t))
  GoalFact t (body_at p x n q i ps bs us) = AllFollowed t us × (front.Quote x ≡ inside (drop q t))
  GoalFact t goal = ⊤

  after_fact : (t : Text) (ms : List Mark) (o : Outcome) → AllFollowed t ms → OutcomeFact t o → OutcomeFact t (after ms o)
  after_fact t ms (read us end) a b = both t ms us a b
  after_fact t ms (fault place k) a b = tt {0}

  open_fact : (t : Text) (n q d i : ℕ) (o : Outcome) → Reads t (code false n q (d + 1) (i + 1)) o → OutcomeFact t o → OutcomeFact t (after (mark_at t (kind.Sign s.BraceOpen) i 1 ∷ []) o)
  open_fact t n q d i (read us end) h b = (
    λ name bare here. stub_read t n q (d + 1) (i + 1) path name here.lines here.rest
        (next t i 1 (123 ∷ []) (function_text path name here.lines here.rest) here.here refl) p bare here.blank (grind (arith, common_steps)) h,
    b,
  )
  open_fact t n q d i (fault place k) h b = tt {0}

  marks_followed : {t : Text} {goal : Goal} {o : Outcome} → Reads t goal o → GoalFact t goal → OutcomeFact t o
  marks_followed (r.from_outer h) g = marks_followed h (tt {0})
  marks_followed (r.inline {t} {i = i} {k = k} {o = o} h) g = after_fact t (mark_at t kind.Inline i k ∷ []) o (tt {0}, tt {0}) (marks_followed h (tt {0}))
  marks_followed (r.open_tag h) g = marks_followed h (tt {0})
  marks_followed (r.echo_tag {t} {i = i} {o = o} h) g = after_fact t (mark_at t kind.Echo i 3 ∷ []) o (tt {0}, tt {0}) (marks_followed h (tt {0}))
  marks_followed (r.outer_end e) g = (tt {0}, tt {0})
  marks_followed (r.outer_open e) g = tt {0}
  marks_followed (r.from_front {t} {i = i} h) g = marks_followed h refl
  marks_followed (r.blank h) g = marks_followed h (tt {0})
  marks_followed (r.close_tag {t} {i = i} {k = k} {o = o} h) g = after_fact t (mark_at t (kind.Sign s.Semicolon) i 2 ∷ []) o (no_brace t i (front.Close k) g (λ e. cc), tt {0}) (marks_followed h (tt {0}))
  marks_followed (r.token {t} {s = x} {i = i} {k = k} {o = o} h) g =
      after_fact t (mark_at t (simple_kind x) i k ∷ []) o (unbraced t (simple_kind x) i [] (no_brace t i (front.Token x k) g (λ e. cc)), tt {0}) (marks_followed h (tt {0}))
  marks_followed (r.open_brace {t} {n = n} {q = q} {d = d} {i = i} {o = o} h) g = open_fact t n q d i o h (marks_followed h (tt {0}))
  marks_followed (r.shut_brace {t} {i = i} {o = o} e h) g = after_fact t (mark_at t (kind.Sign s.BraceClose) i 1 ∷ []) o (no_brace t i front.Shut g (λ e. cc), tt {0}) (marks_followed h (tt {0}))
  marks_followed (r.last_brace {t} {i = i} e) g = (no_brace t i front.Shut g (λ e. cc), tt {0})
  marks_followed (r.quoted {t} {us = us} {o = o} e h m) g = after_fact t us o (marks_followed h (tt {0}, g)) (marks_followed m (tt {0}))
  marks_followed (r.quoted_fault e h) g = tt {0}
  marks_followed (r.nested e) g = tt {0}
  marks_followed (r.code_end e) g = (tt {0}, tt {0})
  marks_followed (r.code_open e) g = tt {0}
  marks_followed r.code_fault g = tt {0}
  marks_followed (r.from_piece h) g = marks_followed h g
  marks_followed (r.bytes h) g = marks_followed h g
  marks_followed (r.variable h) g = marks_followed h g
  marks_followed (r.embedded {t} {us = us} {vs = vs} h m) g = marks_followed m (both t us vs g.0 (marks_followed h (tt {0})), g.1)
  marks_followed (r.embedded_fault h) g = tt {0}
  marks_followed (r.closed {t} {x = x} {q = q} {ps = ps} {bs = bs} {us = us}) g = (unbraced t (kind_of ps bs) q us (no_brace t q (front.Quote x) g.1 (λ e. cc)), g.0)
  marks_followed r.body_open g = tt {0}
  marks_followed r.body_fault g = tt {0}

  pub tokens_followed : (t : Text) (ms : List Mark) → IsTokens t ms → AllFollowed t ms
  tokens_followed t ms is = marks_followed is.1 (tt {0})
