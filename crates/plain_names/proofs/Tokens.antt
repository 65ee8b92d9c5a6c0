-- The words among the tokens of a text are of word bytes.
use Rattle.std.proofs.Common.{ℕ, List, [], ◌∷◌, ◌++◌, take, drop}
use Rattle.std.specs.Prelude.{⊤}
use Rattle.php_lexer.specs.Bytes.{Text}
use Rattle.php_lexer.specs.Marks.{Mark, mark_at}
use Rattle.php_lexer.specs.Texts.{kind_of}
use Rattle.php_lexer.specs.Tokens.{Goal, code, outer_at, front_at, body, body_at, Outcome, read, fault, after, simple_kind, Reads, IsTokens, whole}
use Rattle.php_lexer.specs.Tokens as r
use Rattle.php_lexer.specs.declared.front.Front.TheVariants as front
use Rattle.php_lexer.specs.declared.front.Simple.{Simple}
use Rattle.php_lexer.specs.declared.front.Simple.TheVariants as simple
use Rattle.php_lexer.specs.declared.kinds.Kind.{Kind}
use Rattle.php_lexer.specs.declared.kinds.Kind.TheVariants as kind
use Rattle.php_lexer.specs.declared.kinds.Part.{Part}
use Rattle.plain_names.proofs.Fronts.{AreWordBytes, FrontBy, inside_by}

abbrev pub MarkBy : Kind → List ℕ → Type 0
MarkBy kind.Word text = AreWordBytes text
MarkBy _ text = ⊤

abbrev pub MarksPlain : List Mark → Type 0
MarksPlain [] = ⊤
MarksPlain (m ∷ ms) = MarkBy m.kind m.text × MarksPlain ms

both : (ms us : List Mark) → MarksPlain ms → MarksPlain us → MarksPlain (ms ++ us)
both [] us a b = b
both (m ∷ ms) us a b = (a.0, both ms us a.1 b)

abbrev OutcomePlain : Outcome → Type 0
OutcomePlain (read ms end) = MarksPlain ms
OutcomePlain (fault place k) = ⊤

abbrev GoalPlain : Text → Goal → Type 0
GoalPlain t (front_at f n q d i) = FrontBy (drop i t) f
GoalPlain t (body x n q i ps bs us) = MarksPlain us
GoalPlain t (body_at p x n q i ps bs us) = MarksPlain us
GoalPlain t goal = ⊤

after_plain : (ms : List Mark) (o : Outcome) → MarksPlain ms → OutcomePlain o → OutcomePlain (after ms o)
after_plain ms (read us end) a b = both ms us a b
after_plain ms (fault place k) a b = tt {0}

simple_plain : (s : Simple) (k : ℕ) (z : Text) → FrontBy z (front.Token s k) → MarkBy (simple_kind s) (take k z)
simple_plain simple.Word k z p = p
simple_plain s k z p = tt {0}

quoted_plain : (ps : List Part) (bs text : Text) → MarkBy (kind_of ps bs) text
quoted_plain [] bs text = tt {0}
quoted_plain (p ∷ ps) bs text = tt {0}

tokens_plain : {t : Text} {goal : Goal} {o : Outcome} → Reads t goal o → GoalPlain t goal → OutcomePlain o
tokens_plain (r.from_outer h) g = tokens_plain h (tt {0})
tokens_plain (r.inline {t} {i = i} {k = k} {o = o} h) g = after_plain (mark_at t kind.Inline i k ∷ []) o (tt {0}, tt {0}) (tokens_plain h (tt {0}))
tokens_plain (r.open_tag h) g = tokens_plain h (tt {0})
tokens_plain (r.echo_tag {t} {i = i} {o = o} h) g = after_plain (mark_at t kind.Echo i 3 ∷ []) o (tt {0}, tt {0}) (tokens_plain h (tt {0}))
tokens_plain (r.outer_end e) g = (tt {0}, tt {0})
tokens_plain (r.outer_open e) g = tt {0}
tokens_plain (r.from_front {t} {i = i} h) g = tokens_plain h (inside_by (drop i t))
tokens_plain (r.blank h) g = tokens_plain h (tt {0})
tokens_plain (r.close_tag {t} {i = i} {o = o} h) g = after_plain (mark_at t _ i 2 ∷ []) o (tt {0}, tt {0}) (tokens_plain h (tt {0}))
tokens_plain (r.token {t} {s = s} {i = i} {k = k} {o = o} h) g = after_plain (mark_at t (simple_kind s) i k ∷ []) o (simple_plain s k (drop i t) g, tt {0}) (tokens_plain h (tt {0}))
tokens_plain (r.open_brace {t} {i = i} {o = o} h) g = after_plain (mark_at t _ i 1 ∷ []) o (tt {0}, tt {0}) (tokens_plain h (tt {0}))
tokens_plain (r.shut_brace {t} {i = i} {o = o} e h) g = after_plain (mark_at t _ i 1 ∷ []) o (tt {0}, tt {0}) (tokens_plain h (tt {0}))
tokens_plain (r.last_brace e) g = (tt {0}, tt {0})
tokens_plain (r.quoted {us = us} {o = o} e h i) g = after_plain us o (tokens_plain h (tt {0})) (tokens_plain i (tt {0}))
tokens_plain (r.quoted_fault e h) g = tt {0}
tokens_plain (r.nested e) g = tt {0}
tokens_plain (r.code_end e) g = (tt {0}, tt {0})
tokens_plain (r.code_open e) g = tt {0}
tokens_plain r.code_fault g = tt {0}
tokens_plain (r.from_piece h) g = tokens_plain h g
tokens_plain (r.bytes h) g = tokens_plain h g
tokens_plain (r.variable h) g = tokens_plain h g
tokens_plain (r.embedded {us = us} {vs = vs} h i) g = tokens_plain i (both us vs g (tokens_plain h (tt {0})))
tokens_plain (r.embedded_fault h) g = tt {0}
tokens_plain (r.closed {t} {ps = ps} {bs = bs}) g = (quoted_plain ps bs _, g)
tokens_plain r.body_open g = tt {0}
tokens_plain r.body_fault g = tt {0}

pub words_plain : (text : Text) (ms : List Mark) → IsTokens text ms → MarksPlain ms
words_plain text ms is = tokens_plain is.1 (tt {0})
