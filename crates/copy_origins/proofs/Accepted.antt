-- In an accepted copy each placeholder is exact.
use Rattle.std.proofs.Common.{◌≡◌, ℕ, ◌+◌, Bool, true, false, ◌&&◌, List, [], ◌∷◌, refl, sym, ap, subst, ◌∙◌, arith, length, inl, inr, Option, Some, None, true≢false, String, Vec}
use Rattle.std.specs.Prelude.{⊤, if◌then◌else◌, not}
use Rattle.std.specs.List.{list_all}
use Rattle.std.specs.Str.{bytes_eq}
use Rattle.std.specs.declared.alloc.Global.{Global}
use Rattle.std.proofs.lemmas.Grind.{common_steps}
use Rattle.less_terms.specs.Paths.{is_path, is_path_byte}
use Rattle.php_lexer.specs.Bytes.{is_in}
use Rattle.php_lexer.specs.Marks.{Mark}
use Rattle.php_lexer.specs.Tokens.{IsTokens}
use Rattle.php_lexer.specs.declared.bytes.Class.TheVariants as class
use Rattle.php_tree.specs.declared.file.FileTree.{FileTree}
use Rattle.php_tree.specs.declared.file.Span.{Span}
use Rattle.php_tree.specs.Functions.{numbered, spans_in}
use Rattle.php_tree.specs.Renamed.{name_at, renamed_statements}
use Rattle.php_tree.specs.StatementOf.{statements_of}
use Rattle.php_grammar.specs.Place.{budget}
use Rattle.php_grammar.specs.Values.{stmts_of}
use Rattle.php_lexemes.specs.Lexemes.{lexemes}
use Rattle.php_lexemes.specs.Names.{names_of}
use Rattle.php_parser.specs.Verdict.{IsFileTree}
use Rattle.app_load.specs.declared.fault.LimitName.{LimitName}
use Rattle.app_load.specs.declared.judge.Setting.TheVariants.{Copy}
use Rattle.app_load.specs.Applications.{Text, Outcome, accepted, refused, strayed, with_file, FilesJudged, no_more, static, php, php_bad, php_stray, IsOutcome, past_limit, bad_file, stray_word, too_many, all_good, IsProgram}
use Rattle.app_load.specs.Copies.{file_stub, span_text}
use Rattle.app_load.specs.Files.{File, tree_of}
use Rattle.app_load.specs.Judged.{Verdict, good, Judged, fine}
use Rattle.app_load.specs.Stubs.{is_stub, stub_places, first_stray}
use Rattle.app_load.proofs.Bodies.{named_alike}
use Rattle.plain_names.proofs.Tokens.{words_plain}
use Rattle.copy_laws.specs.Exact.{IsExactTree, FilesExact}
use Rattle.copy_laws.specs.Originals.{kept_in, AreOriginal}
use Rattle.copy_laws.specs.Restored.{restored_files}
use Rattle.copy_laws.proofs.Programs.{program_originals}
use Rattle.copy_origins.proofs.Lexemes.{file_looks, lexemes_good, lexemes_weigh, stray_few, one_if}
use Rattle.copy_origins.proofs.Marks.{IsBare, tokens_followed}
use Rattle.copy_origins.proofs.Reading.{file_is}
use Rattle.copy_origins.proofs.Values.{stubs, reads_good}
use Rattle.copy_origins.proofs.Whole.{whole_read}

-- ---- a path stands for itself in single quotes

both_true : (c d : Bool) → c && d ≡ true → (c ≡ true) × (d ≡ true)
both_true true d e = (refl, e)
both_true false d e = absurd (true≢false (sym e))

bare_byte : (x : ℕ) → is_path_byte x ≡ true → is_in class.Single x ≡ true
bare_byte x e = grind (arith, common_steps)

bare_bytes : (path : List ℕ) → list_all is_path_byte path ≡ true → IsBare path
bare_bytes [] e = refl
bare_bytes (x ∷ xs) e =
    let parts = both_true (is_path_byte x) (list_all is_path_byte xs) e in
    ap (λ b. b && list_all (is_in class.Single) xs) (bare_byte x parts.0) ∙ bare_bytes xs parts.1

bare_path : (path : List ℕ) → is_path path ≡ true → IsBare path
bare_path path e = bare_bytes path (both_true (list_all is_path_byte path) _ (both_true _ _ e).1).0

-- ---- one text

count_places : (path text : List ℕ) (t : ℕ → List ℕ) (n : ℕ) (xs : List (List ℕ × Span)) → length (stub_places path text (numbered n xs)) ≡ stubs path text t xs
count_places path text t n [] = refl
count_places path text t n ((name, at) ∷ xs) = by_one (is_stub path name (span_text text at)) (count_places path text t (n + 1) xs)
  where
    by_one : (c : Bool) → length (stub_places path text (numbered (n + 1) xs)) ≡ stubs path text t xs
        → length (if c then (at.from + 1) ∷ stub_places path text (numbered (n + 1) xs) else stub_places path text (numbered (n + 1) xs)) ≡ one_if c + stubs path text t xs
    by_one true e = omega arith
    by_one false e = omega arith

text_exact : (path text : List ℕ) (ms : List Mark) (tree : FileTree) (c : Bool) → bytes_eq text (file_stub path) ≡ c → IsBare path → IsTokens text ms → IsFileTree ms tree
    → first_stray (if c then 6 ∷ [] else stub_places path text tree.functions) ms ≡ None → IsExactTree path (tree_of tree)
text_exact path text ms tree true e bare tokens is strayless =
    let read = whole_read path bare ms (subst (λ t. IsTokens t ms) (named_alike text (file_stub path) e) tokens) in
    let stub = file_is path (lexemes (names_of ms) ms) (file_looks (names_of ms) path ms read) (stmts_of (statements_of tree.stmts)) budget (length (lexemes (names_of ms) ms)) [] is.tree_of in
    inl (record { line = stub.line; alone = ap (renamed_statements (name_at tree.variables)) stub.alone })
text_exact path text ms tree false e bare tokens is strayless =
    let t : ℕ → List ℕ = name_at tree.variables in
    let ss = statements_of tree.stmts in
    let read = reads_good path text t is.tree_of (lexemes_good (names_of ms) path bare text [] ms (words_plain text ms tokens) (tokens_followed path bare text ms tokens)) in
    let few = stray_few (stub_places path text tree.functions) ms strayless in
    let places : length (stub_places path text tree.functions) ≡ stubs path text t (spans_in ss) = ap (λ fs. length (stub_places path text fs)) is.functions ∙ count_places path text t 1 (spans_in ss) in
    let weighs = read.weighs in let words = lexemes_weigh (names_of ms) [] ms in
    inr (read.good.then (omega arith))

abbrev IfGood : List ℕ → Verdict → Type 0
IfGood path (good ss) = IsExactTree path ss
IfGood path v = ⊤

judged_exact : (path text : List ℕ) (v : Verdict) → is_path path ≡ true → Judged Copy path text v → IfGood path v
judged_exact path text _ is (fine {ms = ms} {tree = tree} parsed once within) =
    text_exact path text ms tree (bytes_eq text (file_stub path)) refl (bare_path path is) parsed.read.tokens parsed.tree_of parsed.exact
judged_exact path text _ is _ = tt {0}

-- ---- all texts

abbrev IfAccepted : Outcome → Type 0
IfAccepted (accepted fs) = FilesExact fs
IfAccepted o = ⊤

abbrev PathsAre : List Text → Type 0
PathsAre ts = list_all (λ t. is_path t.0) ts ≡ true

with_static : (path text : List ℕ) (o : Outcome) → IfAccepted o → IfAccepted (with_file (record { path = path; text = text; tree = None }) o)
with_static path text (accepted fs) h = (tt {0}, h)
with_static path text (refused p l k) h = tt {0}
with_static path text (strayed p l) h = tt {0}

with_php : (f : File) (o : Outcome) → FilesExact (f ∷ []) → IfAccepted o → IfAccepted (with_file f o)
with_php f (accepted fs) e h = (e.0, h)
with_php f (refused p l k) e h = tt {0}
with_php f (strayed p l) e h = tt {0}

files_exact : (ts : List Text) (o : Outcome) → PathsAre ts → FilesJudged Copy ts o → IfAccepted o
files_exact _ _ paths no_more = tt {0}
files_exact _ _ paths (static {path = path} {text = text} {ts = ts} {o = o} e r) = with_static path text o (files_exact ts o (both_true (is_path path) _ paths).1 r)
files_exact _ _ paths (php {path = path} {text = text} {tree = tree} {ts = ts} {o = o} e j r) =
    let parts = both_true (is_path path) _ paths in
    with_php (record { path = path; text = text; tree = Some tree }) o (judged_exact path text (good tree) parts.0 j, tt {0}) (files_exact ts o parts.1 r)
files_exact _ _ paths (php_bad e j) = tt {0}
files_exact _ _ paths (php_stray e j) = tt {0}

paths_first : (c : Bool) (x : LimitName) (y : Option LimitName) → (if not c then Some x else y) ≡ None → c ≡ true
paths_first true x y e = refl
paths_first false x y e = absurd cc

outcome_exact : (ts : List Text) (o : Outcome) → IsOutcome Copy ts o → IfAccepted o
outcome_exact ts _ (all_good {fs = fs} within judged few) = files_exact ts (accepted fs) (paths_first (list_all (λ t. is_path t.0) ts) _ _ within) judged
outcome_exact ts _ (past_limit e) = tt {0}
outcome_exact ts _ (bad_file e j) = tt {0}
outcome_exact ts _ (stray_word e j) = tt {0}
outcome_exact ts _ (too_many e j f) = tt {0}

abbrev Given : Type 0
Given = List (String Global × Vec ℕ Global)

pub program_exact : (given : Given) (gs : List File) → IsProgram given gs → FilesExact gs
program_exact given gs is = outcome_exact is.texts (accepted gs) is.told

pub program_original : (given : Given) (gs : List File) → IsProgram given gs → AreOriginal (kept_in gs) (restored_files gs) gs
program_original given gs is = program_originals given gs is (program_exact given gs is)
