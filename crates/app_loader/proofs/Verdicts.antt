-- A text has one verdict.
use Rattle.std.proofs.Common.{◌≡◌, ℕ, ◌<◌, ◌≤◌, List, [], ◌∷◌, length, map, Option, Some, None, refl, sym, ap, ◌∙◌, subst, arith}
use Rattle.std.specs.Prelude.{slice_get}
use Rattle.std.specs.Str.{str_to_ascii_lowercase}
use Rattle.less_terms.specs.Lines.{line_at}
use Rattle.php_lexer.specs.Marks.{Mark}
use Rattle.php_lexer.specs.Tokens.{IsTokens, IsFirstFault}
use Rattle.php_lexer.specs.declared.fault.LexKind.{LexKind}
use Rattle.php_lexer.proofs.TokenLaws.{one_list, fault_alone}
use Rattle.php_grammar.specs.declared.token.Fault.{Fault}
use Rattle.php_grammar.specs.Place.{IsFault}
use Rattle.php_grammar.proofs.Single.{one_tree_is, no_tree as no_tree_at, one_place, one_kind}
use Rattle.php_lexemes.specs.Names.{names_of}
use Rattle.php_lexemes.specs.Lexemes.{lexemes}
use Rattle.php_tree.specs.declared.name.VarName.{VarName}
use Rattle.php_tree.specs.declared.file.FileTree.{FileTree}
use Rattle.php_tree.specs.declared.file.FunSpan.{FunSpan}
use Rattle.php_tree.specs.Statements.{Statements}
use Rattle.php_tree.specs.StatementOf.{statements_of}
use Rattle.php_tree.specs.Functions.{functions_of}
use Rattle.php_tree.specs.Renamed.{name_at, renamed_statements}
use Rattle.php_parser.specs.Verdict.{IsFileTree, IsFaultAt, name_text, place_of, kind_of}
use Rattle.php_parser.specs.declared.fault.ParseKind.{ParseKind}
use Rattle.app_load.specs.declared.fault.AppKind.TheVariants as kind
use Rattle.app_load.specs.declared.judge.Setting.{Setting}
use Rattle.app_load.specs.declared.judge.Setting.TheVariants.{Application, Copy}
use Rattle.app_load.specs.Files.{tree_of}
use Rattle.app_load.specs.Findings.{Name, findings_in}
use Rattle.app_load.specs.Twice.{first_twice, first_leaving}
use Rattle.app_load.specs.Stubs.{first_reserved, first_stray, placeholders}
use Rattle.app_load.specs.Judged.{Verdict, good, bad, stray, file_findings, IsFree, IsExact, IsRead, IsParsed, Judged, too_long, no_tokens, reserved, no_tree, out_of_place, twice, leaving, fine}

-- ---- what holds of two trees of one text

same_marks : (text : List ℕ) (ms ns : List Mark) → IsTokens text ms → IsTokens text ns → ms ≡ ns
same_marks text ms ns a b = one_list text ms ns a b

same_names : (xs ys : List VarName) → map name_text xs ≡ map name_text ys → xs ≡ ys
same_names [] [] e = refl
same_names [] (y ∷ ys) e = cc
same_names (x ∷ xs) [] e = cc
same_names (x ∷ xs) (y ∷ ys) e =
    let head : x.text ≡ y.text = cc in
    let tail = same_names xs ys cc in
    let first : x ≡ y = ap (λ (t : List ℕ). let v : VarName = record { text = t } in v) head in
    ap (λ v. v ∷ xs) first ∙ ap (λ vs. y ∷ vs) tail

record AreAlike (t u : FileTree) : Type 0 where
  pub variables : t.variables ≡ u.variables
  pub statements : statements_of t.stmts ≡ statements_of u.stmts
  pub functions : t.functions ≡ u.functions

alike_of : (ms : List Mark) (t u : FileTree) → IsFileTree ms t → IsFileTree ms u → AreAlike t u
alike_of ms t u a b =
    let e = one_tree_is (lexemes (names_of ms) ms) (statements_of t.stmts) (statements_of u.stmts) a.tree_of b.tree_of in
    record {
      variables = same_names t.variables u.variables (a.names ∙ sym b.names);
      statements = e;
      functions = a.functions ∙ (ap functions_of e ∙ sym b.functions);
    }

alike : (text : List ℕ) (ms ns : List Mark) (t u : FileTree) → IsTokens text ms → IsTokens text ns → IsFileTree ms t → IsFileTree ns u → AreAlike t u
alike text ms ns t u a b f g = alike_of ms t u f (subst (λ xs. IsFileTree xs u) (sym (same_marks text ms ns a b)) g)

findings_alike : (t u : FileTree) → AreAlike t u → file_findings t ≡ file_findings u
findings_alike t u e = ap (λ vs. findings_in (name_at vs) 0 (statements_of t.stmts)) e.variables ∙ ap (λ ss. findings_in (name_at u.variables) 0 ss) e.statements

tree_alike : (t u : FileTree) → AreAlike t u → tree_of t ≡ tree_of u
tree_alike t u e = ap (λ vs. renamed_statements (name_at vs) (statements_of t.stmts)) e.variables ∙ ap (λ ss. renamed_statements (name_at u.variables) ss) e.statements

-- ---- what excludes what

not_long : (text : List ℕ) → 1048576 < length text → length text ≤ 1048576 → ⊥
not_long text h short = omega arith

no_tokens_there : (text : List ℕ) (ms : List Mark) (place : ℕ) (k : LexKind) → IsFirstFault text place k → IsTokens text ms → ⊥
no_tokens_there text ms place k fault tokens = fault_alone.no_tokens text ms place k fault tokens

not_free : (setting : Setting) (text : List ℕ) (ms ns : List Mark) (m : Mark) → setting ≡ Application → IsTokens text ms → first_reserved ms ≡ Some m → IsRead setting text ns → ⊥
not_free setting text ms ns m is tokens first read =
    let free : first_reserved ns ≡ None = subst (λ x. IsFree x ns) is read.free in
    let e = ap first_reserved (same_marks text ms ns tokens read.tokens) in
    cc

no_tree_there : (setting : Setting) (text : List ℕ) (ms ns : List Mark) (place : ℕ) (k : ParseKind) (tree : FileTree) → IsRead setting text ms → IsFaultAt text ms place k
    → IsRead setting text ns → IsFileTree ns tree → ⊥
no_tree_there setting text ms ns place k tree read fault other has =
    let here = subst (λ xs. IsFileTree xs tree) (sym (same_marks text ms ns read.tokens other.tokens)) has in
    no_tree_at (lexemes (names_of ms) ms) fault.token fault.why (statements_of tree.stmts) fault.first here.tree_of

not_exact : (setting : Setting) (path text : List ℕ) (ms ns : List Mark) (m : Mark) (t u : FileTree) → setting ≡ Copy → IsRead setting text ms → IsFileTree ms t
    → first_stray (placeholders path text t.functions) ms ≡ Some m → IsParsed setting path text ns u → ⊥
not_exact setting path text ms ns m t u is read has first parsed =
    let exact : first_stray (placeholders path text u.functions) ns ≡ None = subst (λ x. IsExact x path text ns u) is parsed.exact in
    let e = same_marks text ms ns read.tokens parsed.read.tokens in
    let functions = (alike text ms ns t u read.tokens parsed.read.tokens has parsed.tree_of).functions in
    let both = ap (λ fs. first_stray (placeholders path text fs) ms) functions ∙ ap (first_stray (placeholders path text u.functions)) e in
    cc

not_once : (setting : Setting) (path text : List ℕ) (ms ns : List Mark) (n : Name) (t u : FileTree) → IsParsed setting path text ms t → first_twice (file_findings t) ≡ Some n
    → IsParsed setting path text ns u → first_twice (file_findings u) ≡ None → ⊥
not_once setting path text ms ns n t u a first b none =
    let e = ap first_twice (findings_alike t u (alike text ms ns t u a.read.tokens b.read.tokens a.tree_of b.tree_of)) in cc

not_within : (setting : Setting) (path text : List ℕ) (ms ns : List Mark) (l : ℕ) (t u : FileTree) → IsParsed setting path text ms t → first_leaving (file_findings t) ≡ Some l
    → IsParsed setting path text ns u → first_leaving (file_findings u) ≡ None → ⊥
not_within setting path text ms ns l t u a first b none =
    let e = ap first_leaving (findings_alike t u (alike text ms ns t u a.read.tokens b.read.tokens a.tree_of b.tree_of)) in cc

-- ---- the same told twice

same_fault : (text : List ℕ) (p q : ℕ) (k l : LexKind) → IsFirstFault text p k → IsFirstFault text q l → bad (line_at text p) (kind.Lex k) ≡ bad (line_at text q) (kind.Lex l)
same_fault text p q k l a b =
    let e = fault_alone.one_fault text p q k l a b in
    ap (λ n. bad (line_at text n) (kind.Lex k)) e.0 ∙ ap (λ x. bad (line_at text q) (kind.Lex x)) e.1

same_word : (text : List ℕ) (ms ns : List Mark) (m n : Mark) → IsTokens text ms → IsTokens text ns → first_reserved ms ≡ Some m → first_reserved ns ≡ Some n
    → bad m.line (kind.ReservedWord m.text) ≡ bad n.line (kind.ReservedWord n.text)
same_word text ms ns m n a b first other =
    let e = ap first_reserved (same_marks text ms ns a b) in
    let same : m ≡ n = cc in
    ap (λ x. bad x.line (kind.ReservedWord x.text)) same

same_parse : (text : List ℕ) (ms ns : List Mark) (p q : ℕ) (k l : ParseKind) → IsTokens text ms → IsTokens text ns → IsFaultAt text ms p k → IsFaultAt text ns q l
    → bad (line_at text p) (kind.Parse k) ≡ bad (line_at text q) (kind.Parse l)
same_parse text ms ns p q k l a b f g =
    let here = subst (λ xs. IsFaultAt text xs q l) (sym (same_marks text ms ns a b)) g in
    let ts = lexemes (names_of ms) ms in
    let token = one_place ts f.token here.token f.why here.why f.first here.first in
    let why = one_kind ts f.token here.token f.why here.why f.first here.first in
    let place : p ≡ q = f.at ∙ (ap (λ n. place_of text (slice_get ms n)) token ∙ sym here.at) in
    let told : k ≡ l = f.tells ∙ (ap (λ n. kind_of f.why (slice_get ms n)) token ∙ (ap (λ y. kind_of y (slice_get ms here.token)) why ∙ sym here.tells)) in
    ap (λ n. bad (line_at text n) (kind.Parse k)) place ∙ ap (λ x. bad (line_at text q) (kind.Parse x)) told

same_stray : (path text : List ℕ) (ms ns : List Mark) (m n : Mark) (t u : FileTree) → IsTokens text ms → IsTokens text ns → IsFileTree ms t → IsFileTree ns u
    → first_stray (placeholders path text t.functions) ms ≡ Some m → first_stray (placeholders path text u.functions) ns ≡ Some n → stray m.line ≡ stray n.line
same_stray path text ms ns m n t u a b f g first other =
    let e = same_marks text ms ns a b in
    let functions = (alike text ms ns t u a b f g).functions in
    let both = ap (λ fs. first_stray (placeholders path text fs) ms) functions ∙ ap (first_stray (placeholders path text u.functions)) e in
    let same : m ≡ n = cc in
    ap (λ x. stray x.line) same

same_twice : (text : List ℕ) (ms ns : List Mark) (m n : Name) (t u : FileTree) → IsTokens text ms → IsTokens text ns → IsFileTree ms t → IsFileTree ns u
    → first_twice (file_findings t) ≡ Some m → first_twice (file_findings u) ≡ Some n
    → bad m.line (kind.Twice (str_to_ascii_lowercase m.word)) ≡ bad n.line (kind.Twice (str_to_ascii_lowercase n.word))
same_twice text ms ns m n t u a b f g first other =
    let e = ap first_twice (findings_alike t u (alike text ms ns t u a b f g)) in
    let same : m ≡ n = cc in
    ap (λ x. bad x.line (kind.Twice (str_to_ascii_lowercase x.word))) same

same_leaving : (text : List ℕ) (ms ns : List Mark) (l m : ℕ) (t u : FileTree) → IsTokens text ms → IsTokens text ns → IsFileTree ms t → IsFileTree ns u
    → first_leaving (file_findings t) ≡ Some l → first_leaving (file_findings u) ≡ Some m → bad l kind.BreakDepth ≡ bad m kind.BreakDepth
same_leaving text ms ns l m t u a b f g first other =
    let e = ap first_leaving (findings_alike t u (alike text ms ns t u a b f g)) in
    let same : l ≡ m = cc in
    ap (λ x. bad x kind.BreakDepth) same

same_tree : (text : List ℕ) (ms ns : List Mark) (t u : FileTree) → IsTokens text ms → IsTokens text ns → IsFileTree ms t → IsFileTree ns u → good (tree_of t) ≡ good (tree_of u)
same_tree text ms ns t u a b f g = ap good (tree_alike t u (alike text ms ns t u a b f g))

-- ---- one verdict

pub one_verdict : (setting : Setting) (path text : List ℕ) (v w : Verdict) → Judged setting path text v → Judged setting path text w → v ≡ w
one_verdict setting path text _ _ (too_long h1) (too_long h2) = refl
one_verdict setting path text _ _ (too_long h1) (no_tokens {place = p2} {k = k2} h2 f2) = absurd (not_long text h1 (h2))
one_verdict setting path text _ _ (too_long h1) (reserved {ms = ms2} {m = m2} is2 h2 ts2 f2) = absurd (not_long text h1 (h2))
one_verdict setting path text _ _ (too_long h1) (no_tree {ms = ms2} {place = p2} {k = k2} r2 f2) = absurd (not_long text h1 (r2.short))
one_verdict setting path text _ _ (too_long h1) (out_of_place {ms = ms2} {m = m2} {tree = t2} is2 r2 g2 f2) = absurd (not_long text h1 (r2.short))
one_verdict setting path text _ _ (too_long h1) (twice {ms = ms2} {tree = t2} {n = n2} a2 f2) = absurd (not_long text h1 (a2.read.short))
one_verdict setting path text _ _ (too_long h1) (leaving {ms = ms2} {tree = t2} {l = l2} a2 o2 f2) = absurd (not_long text h1 (a2.read.short))
one_verdict setting path text _ _ (too_long h1) (fine {ms = ms2} {tree = t2} a2 o2 f2) = absurd (not_long text h1 (a2.read.short))
one_verdict setting path text _ _ (no_tokens {place = p1} {k = k1} h1 f1) (too_long h2) = absurd (not_long text h2 (h1))
one_verdict setting path text _ _ (no_tokens {place = p1} {k = k1} h1 f1) (no_tokens {place = p2} {k = k2} h2 f2) = same_fault text p1 p2 k1 k2 f1 f2
one_verdict setting path text _ _ (no_tokens {place = p1} {k = k1} h1 f1) (reserved {ms = ms2} {m = m2} is2 h2 ts2 f2) = absurd (no_tokens_there text ms2 p1 k1 f1 (ts2))
one_verdict setting path text _ _ (no_tokens {place = p1} {k = k1} h1 f1) (no_tree {ms = ms2} {place = p2} {k = k2} r2 f2) = absurd (no_tokens_there text ms2 p1 k1 f1 (r2.tokens))
one_verdict setting path text _ _ (no_tokens {place = p1} {k = k1} h1 f1) (out_of_place {ms = ms2} {m = m2} {tree = t2} is2 r2 g2 f2) = absurd (no_tokens_there text ms2 p1 k1 f1 (r2.tokens))
one_verdict setting path text _ _ (no_tokens {place = p1} {k = k1} h1 f1) (twice {ms = ms2} {tree = t2} {n = n2} a2 f2) = absurd (no_tokens_there text ms2 p1 k1 f1 (a2.read.tokens))
one_verdict setting path text _ _ (no_tokens {place = p1} {k = k1} h1 f1) (leaving {ms = ms2} {tree = t2} {l = l2} a2 o2 f2) = absurd (no_tokens_there text ms2 p1 k1 f1 (a2.read.tokens))
one_verdict setting path text _ _ (no_tokens {place = p1} {k = k1} h1 f1) (fine {ms = ms2} {tree = t2} a2 o2 f2) = absurd (no_tokens_there text ms2 p1 k1 f1 (a2.read.tokens))
one_verdict setting path text _ _ (reserved {ms = ms1} {m = m1} is1 h1 ts1 f1) (too_long h2) = absurd (not_long text h2 (h1))
one_verdict setting path text _ _ (reserved {ms = ms1} {m = m1} is1 h1 ts1 f1) (no_tokens {place = p2} {k = k2} h2 f2) = absurd (no_tokens_there text ms1 p2 k2 f2 (ts1))
one_verdict setting path text _ _ (reserved {ms = ms1} {m = m1} is1 h1 ts1 f1) (reserved {ms = ms2} {m = m2} is2 h2 ts2 f2) = same_word text ms1 ms2 m1 m2 ts1 ts2 f1 f2
one_verdict setting path text _ _ (reserved {ms = ms1} {m = m1} is1 h1 ts1 f1) (no_tree {ms = ms2} {place = p2} {k = k2} r2 f2) = absurd (not_free setting text ms1 ms2 m1 is1 ts1 f1 (r2))
one_verdict setting path text _ _ (reserved {ms = ms1} {m = m1} is1 h1 ts1 f1) (out_of_place {ms = ms2} {m = m2} {tree = t2} is2 r2 g2 f2) = absurd (not_free setting text ms1 ms2 m1 is1 ts1 f1 (r2))
one_verdict setting path text _ _ (reserved {ms = ms1} {m = m1} is1 h1 ts1 f1) (twice {ms = ms2} {tree = t2} {n = n2} a2 f2) = absurd (not_free setting text ms1 ms2 m1 is1 ts1 f1 (a2.read))
one_verdict setting path text _ _ (reserved {ms = ms1} {m = m1} is1 h1 ts1 f1) (leaving {ms = ms2} {tree = t2} {l = l2} a2 o2 f2) = absurd (not_free setting text ms1 ms2 m1 is1 ts1 f1 (a2.read))
one_verdict setting path text _ _ (reserved {ms = ms1} {m = m1} is1 h1 ts1 f1) (fine {ms = ms2} {tree = t2} a2 o2 f2) = absurd (not_free setting text ms1 ms2 m1 is1 ts1 f1 (a2.read))
one_verdict setting path text _ _ (no_tree {ms = ms1} {place = p1} {k = k1} r1 f1) (too_long h2) = absurd (not_long text h2 (r1.short))
one_verdict setting path text _ _ (no_tree {ms = ms1} {place = p1} {k = k1} r1 f1) (no_tokens {place = p2} {k = k2} h2 f2) = absurd (no_tokens_there text ms1 p2 k2 f2 (r1.tokens))
one_verdict setting path text _ _ (no_tree {ms = ms1} {place = p1} {k = k1} r1 f1) (reserved {ms = ms2} {m = m2} is2 h2 ts2 f2) = absurd (not_free setting text ms2 ms1 m2 is2 ts2 f2 (r1))
one_verdict setting path text _ _ (no_tree {ms = ms1} {place = p1} {k = k1} r1 f1) (no_tree {ms = ms2} {place = p2} {k = k2} r2 f2) = same_parse text ms1 ms2 p1 p2 k1 k2 r1.tokens r2.tokens f1 f2
one_verdict setting path text _ _ (no_tree {ms = ms1} {place = p1} {k = k1} r1 f1) (out_of_place {ms = ms2} {m = m2} {tree = t2} is2 r2 g2 f2) = absurd (no_tree_there setting text ms1 ms2 p1 k1 t2 r1 f1 (r2) (g2))
one_verdict setting path text _ _ (no_tree {ms = ms1} {place = p1} {k = k1} r1 f1) (twice {ms = ms2} {tree = t2} {n = n2} a2 f2) = absurd (no_tree_there setting text ms1 ms2 p1 k1 t2 r1 f1 (a2.read) (a2.tree_of))
one_verdict setting path text _ _ (no_tree {ms = ms1} {place = p1} {k = k1} r1 f1) (leaving {ms = ms2} {tree = t2} {l = l2} a2 o2 f2) = absurd (no_tree_there setting text ms1 ms2 p1 k1 t2 r1 f1 (a2.read) (a2.tree_of))
one_verdict setting path text _ _ (no_tree {ms = ms1} {place = p1} {k = k1} r1 f1) (fine {ms = ms2} {tree = t2} a2 o2 f2) = absurd (no_tree_there setting text ms1 ms2 p1 k1 t2 r1 f1 (a2.read) (a2.tree_of))
one_verdict setting path text _ _ (out_of_place {ms = ms1} {m = m1} {tree = t1} is1 r1 g1 f1) (too_long h2) = absurd (not_long text h2 (r1.short))
one_verdict setting path text _ _ (out_of_place {ms = ms1} {m = m1} {tree = t1} is1 r1 g1 f1) (no_tokens {place = p2} {k = k2} h2 f2) = absurd (no_tokens_there text ms1 p2 k2 f2 (r1.tokens))
one_verdict setting path text _ _ (out_of_place {ms = ms1} {m = m1} {tree = t1} is1 r1 g1 f1) (reserved {ms = ms2} {m = m2} is2 h2 ts2 f2) = absurd (not_free setting text ms2 ms1 m2 is2 ts2 f2 (r1))
one_verdict setting path text _ _ (out_of_place {ms = ms1} {m = m1} {tree = t1} is1 r1 g1 f1) (no_tree {ms = ms2} {place = p2} {k = k2} r2 f2) = absurd (no_tree_there setting text ms2 ms1 p2 k2 t1 r2 f2 (r1) (g1))
one_verdict setting path text _ _ (out_of_place {ms = ms1} {m = m1} {tree = t1} is1 r1 g1 f1) (out_of_place {ms = ms2} {m = m2} {tree = t2} is2 r2 g2 f2) = same_stray path text ms1 ms2 m1 m2 t1 t2 r1.tokens r2.tokens g1 g2 f1 f2
one_verdict setting path text _ _ (out_of_place {ms = ms1} {m = m1} {tree = t1} is1 r1 g1 f1) (twice {ms = ms2} {tree = t2} {n = n2} a2 f2) = absurd (not_exact setting path text ms1 ms2 m1 t1 t2 is1 r1 g1 f1 a2)
one_verdict setting path text _ _ (out_of_place {ms = ms1} {m = m1} {tree = t1} is1 r1 g1 f1) (leaving {ms = ms2} {tree = t2} {l = l2} a2 o2 f2) = absurd (not_exact setting path text ms1 ms2 m1 t1 t2 is1 r1 g1 f1 a2)
one_verdict setting path text _ _ (out_of_place {ms = ms1} {m = m1} {tree = t1} is1 r1 g1 f1) (fine {ms = ms2} {tree = t2} a2 o2 f2) = absurd (not_exact setting path text ms1 ms2 m1 t1 t2 is1 r1 g1 f1 a2)
one_verdict setting path text _ _ (twice {ms = ms1} {tree = t1} {n = n1} a1 f1) (too_long h2) = absurd (not_long text h2 (a1.read.short))
one_verdict setting path text _ _ (twice {ms = ms1} {tree = t1} {n = n1} a1 f1) (no_tokens {place = p2} {k = k2} h2 f2) = absurd (no_tokens_there text ms1 p2 k2 f2 (a1.read.tokens))
one_verdict setting path text _ _ (twice {ms = ms1} {tree = t1} {n = n1} a1 f1) (reserved {ms = ms2} {m = m2} is2 h2 ts2 f2) = absurd (not_free setting text ms2 ms1 m2 is2 ts2 f2 (a1.read))
one_verdict setting path text _ _ (twice {ms = ms1} {tree = t1} {n = n1} a1 f1) (no_tree {ms = ms2} {place = p2} {k = k2} r2 f2) = absurd (no_tree_there setting text ms2 ms1 p2 k2 t1 r2 f2 (a1.read) (a1.tree_of))
one_verdict setting path text _ _ (twice {ms = ms1} {tree = t1} {n = n1} a1 f1) (out_of_place {ms = ms2} {m = m2} {tree = t2} is2 r2 g2 f2) = absurd (not_exact setting path text ms2 ms1 m2 t2 t1 is2 r2 g2 f2 a1)
one_verdict setting path text _ _ (twice {ms = ms1} {tree = t1} {n = n1} a1 f1) (twice {ms = ms2} {tree = t2} {n = n2} a2 f2) = same_twice text ms1 ms2 n1 n2 t1 t2 a1.read.tokens a2.read.tokens a1.tree_of a2.tree_of f1 f2
one_verdict setting path text _ _ (twice {ms = ms1} {tree = t1} {n = n1} a1 f1) (leaving {ms = ms2} {tree = t2} {l = l2} a2 o2 f2) = absurd (not_once setting path text ms1 ms2 n1 t1 t2 a1 f1 a2 o2)
one_verdict setting path text _ _ (twice {ms = ms1} {tree = t1} {n = n1} a1 f1) (fine {ms = ms2} {tree = t2} a2 o2 f2) = absurd (not_once setting path text ms1 ms2 n1 t1 t2 a1 f1 a2 o2)
one_verdict setting path text _ _ (leaving {ms = ms1} {tree = t1} {l = l1} a1 o1 f1) (too_long h2) = absurd (not_long text h2 (a1.read.short))
one_verdict setting path text _ _ (leaving {ms = ms1} {tree = t1} {l = l1} a1 o1 f1) (no_tokens {place = p2} {k = k2} h2 f2) = absurd (no_tokens_there text ms1 p2 k2 f2 (a1.read.tokens))
one_verdict setting path text _ _ (leaving {ms = ms1} {tree = t1} {l = l1} a1 o1 f1) (reserved {ms = ms2} {m = m2} is2 h2 ts2 f2) = absurd (not_free setting text ms2 ms1 m2 is2 ts2 f2 (a1.read))
one_verdict setting path text _ _ (leaving {ms = ms1} {tree = t1} {l = l1} a1 o1 f1) (no_tree {ms = ms2} {place = p2} {k = k2} r2 f2) = absurd (no_tree_there setting text ms2 ms1 p2 k2 t1 r2 f2 (a1.read) (a1.tree_of))
one_verdict setting path text _ _ (leaving {ms = ms1} {tree = t1} {l = l1} a1 o1 f1) (out_of_place {ms = ms2} {m = m2} {tree = t2} is2 r2 g2 f2) = absurd (not_exact setting path text ms2 ms1 m2 t2 t1 is2 r2 g2 f2 a1)
one_verdict setting path text _ _ (leaving {ms = ms1} {tree = t1} {l = l1} a1 o1 f1) (twice {ms = ms2} {tree = t2} {n = n2} a2 f2) = absurd (not_once setting path text ms2 ms1 n2 t2 t1 a2 f2 a1 o1)
one_verdict setting path text _ _ (leaving {ms = ms1} {tree = t1} {l = l1} a1 o1 f1) (leaving {ms = ms2} {tree = t2} {l = l2} a2 o2 f2) = same_leaving text ms1 ms2 l1 l2 t1 t2 a1.read.tokens a2.read.tokens a1.tree_of a2.tree_of f1 f2
one_verdict setting path text _ _ (leaving {ms = ms1} {tree = t1} {l = l1} a1 o1 f1) (fine {ms = ms2} {tree = t2} a2 o2 f2) = absurd (not_within setting path text ms1 ms2 l1 t1 t2 a1 f1 a2 f2)
one_verdict setting path text _ _ (fine {ms = ms1} {tree = t1} a1 o1 f1) (too_long h2) = absurd (not_long text h2 (a1.read.short))
one_verdict setting path text _ _ (fine {ms = ms1} {tree = t1} a1 o1 f1) (no_tokens {place = p2} {k = k2} h2 f2) = absurd (no_tokens_there text ms1 p2 k2 f2 (a1.read.tokens))
one_verdict setting path text _ _ (fine {ms = ms1} {tree = t1} a1 o1 f1) (reserved {ms = ms2} {m = m2} is2 h2 ts2 f2) = absurd (not_free setting text ms2 ms1 m2 is2 ts2 f2 (a1.read))
one_verdict setting path text _ _ (fine {ms = ms1} {tree = t1} a1 o1 f1) (no_tree {ms = ms2} {place = p2} {k = k2} r2 f2) = absurd (no_tree_there setting text ms2 ms1 p2 k2 t1 r2 f2 (a1.read) (a1.tree_of))
one_verdict setting path text _ _ (fine {ms = ms1} {tree = t1} a1 o1 f1) (out_of_place {ms = ms2} {m = m2} {tree = t2} is2 r2 g2 f2) = absurd (not_exact setting path text ms2 ms1 m2 t2 t1 is2 r2 g2 f2 a1)
one_verdict setting path text _ _ (fine {ms = ms1} {tree = t1} a1 o1 f1) (twice {ms = ms2} {tree = t2} {n = n2} a2 f2) = absurd (not_once setting path text ms2 ms1 n2 t2 t1 a2 f2 a1 o1)
one_verdict setting path text _ _ (fine {ms = ms1} {tree = t1} a1 o1 f1) (leaving {ms = ms2} {tree = t2} {l = l2} a2 o2 f2) = absurd (not_within setting path text ms2 ms1 l2 t2 t1 a2 f2 a1 f1)
one_verdict setting path text _ _ (fine {ms = ms1} {tree = t1} a1 o1 f1) (fine {ms = ms2} {tree = t2} a2 o2 f2) = same_tree text ms1 ms2 t1 t2 a1.read.tokens a2.read.tokens a1.tree_of a2.tree_of
