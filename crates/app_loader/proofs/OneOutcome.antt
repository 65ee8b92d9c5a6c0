-- Files that were given have one outcome.
use Rattle.std.proofs.Common.{◌≡◌, ℕ, ◌<◌, ◌≤◌, Bool, true, false, List, [], ◌∷◌, Option, Some, None, refl, sym, ap, ◌∙◌, subst, arith, String, Vec}
use Rattle.std.specs.declared.alloc.Global.{Global}
use Rattle.app_load.specs.declared.fault.AppKind.{AppKind}
use Rattle.app_load.specs.declared.fault.AppKind.TheVariants.{Limit}
use Rattle.app_load.specs.declared.fault.LimitName.{LimitName}
use Rattle.app_load.specs.declared.fault.LimitName.TheVariants as limit
use Rattle.app_load.specs.declared.judge.Setting.{Setting}
use Rattle.app_load.specs.Files.{Tree, File, is_php}
use Rattle.app_load.specs.Judged.{Verdict, good, bad, stray, Judged}
use Rattle.app_load.specs.Applications.{Text, Outcome, accepted, refused, strayed, with_file, FilesJudged, no_more, static, php, php_bad, php_stray, first_limit, functions_of_all, IsOutcome, past_limit, bad_file, stray_word, too_many, all_good, IsOutcomeOf}
use Rattle.app_files.proofs.Sorting.{one_order}
use Rattle.app_loader.proofs.Verdicts.{one_verdict}

abbrev Pair : Type 0
Pair = String Global × Vec ℕ Global

clash : {A : Type 0} (path : List ℕ) → is_php path ≡ true → is_php path ≡ false → A
clash path e f = absurd (cc)

bad_good : {A : Type 0} (tree : Tree) (l : ℕ) (k : AppKind) → good tree ≡ bad l k → A
bad_good tree l k e = absurd (cc)

stray_good : {A : Type 0} (tree : Tree) (l : ℕ) → good tree ≡ stray l → A
stray_good tree l e = absurd (cc)

stray_bad : {A : Type 0} (l m : ℕ) (k : AppKind) → bad l k ≡ stray m → A
stray_bad l m k e = absurd (cc)

one_told : (setting : Setting) (ts : List Text) (o p : Outcome) → FilesJudged setting ts o → FilesJudged setting ts p → o ≡ p
one_told setting _ _ _ no_more no_more = refl
one_told setting _ _ _ (static {path = path} {text = text} {ts = ts} {o = o} e r) (static {o = p} f s) =
    ap (λ x. with_file (record { path = path; text = text; tree = None }) x) (one_told setting ts o p r s)
one_told setting _ _ _ (static {path = path} e r) (php f j s) = clash path f e
one_told setting _ _ _ (static {path = path} e r) (php_bad f j) = clash path f e
one_told setting _ _ _ (static {path = path} e r) (php_stray f j) = clash path f e
one_told setting _ _ _ (php {path = path} e i r) (static f s) = clash path e f
one_told setting _ _ _ (php {path = path} {text = text} {tree = tree} {ts = ts} {o = o} e i r) (php {tree = other} {o = p} f j s) =
    let same : tree ≡ other = (let v = one_verdict setting path text (good tree) (good other) i j in cc) in
    ap (λ x. with_file (record { path = path; text = text; tree = Some x }) o) same ∙ ap (λ x. with_file (record { path = path; text = text; tree = Some other }) x) (one_told setting ts o p r s)
one_told setting _ _ _ (php {path = path} {text = text} {tree = tree} e i r) (php_bad {l = l} {k = k} f j) = bad_good tree l k (one_verdict setting path text (good tree) (bad l k) i j)
one_told setting _ _ _ (php {path = path} {text = text} {tree = tree} e i r) (php_stray {l = l} f j) = stray_good tree l (one_verdict setting path text (good tree) (stray l) i j)
one_told setting _ _ _ (php_bad {path = path} e i) (static f s) = clash path e f
one_told setting _ _ _ (php_bad {path = path} {text = text} {l = l} {k = k} e i) (php {tree = tree} f j s) = bad_good tree l k (one_verdict setting path text (good tree) (bad l k) j i)
one_told setting _ _ _ (php_bad {path = path} {text = text} {l = l} {k = k} e i) (php_bad {l = m} {k = h} f j) =
    let v = one_verdict setting path text (bad l k) (bad m h) i j in
    let lines : l ≡ m = cc in
    let kinds : k ≡ h = cc in
    ap (λ x. refused path x k) lines ∙ ap (λ x. refused path m x) kinds
one_told setting _ _ _ (php_bad {path = path} {text = text} {l = l} {k = k} e i) (php_stray {l = m} f j) = stray_bad l m k (one_verdict setting path text (bad l k) (stray m) i j)
one_told setting _ _ _ (php_stray {path = path} e i) (static f s) = clash path e f
one_told setting _ _ _ (php_stray {path = path} {text = text} {l = l} e i) (php {tree = tree} f j s) = stray_good tree l (one_verdict setting path text (good tree) (stray l) j i)
one_told setting _ _ _ (php_stray {path = path} {text = text} {l = m} e i) (php_bad {l = l} {k = k} f j) = stray_bad l m k (one_verdict setting path text (bad l k) (stray m) j i)
one_told setting _ _ _ (php_stray {path = path} {text = text} {l = l} e i) (php_stray {l = m} f j) =
    let v = one_verdict setting path text (stray l) (stray m) i j in
    let lines : l ≡ m = cc in
    ap (λ x. strayed path x) lines

-- ---- the whole

same_limit : (ts : List Text) (m n : LimitName) → first_limit ts ≡ Some m → first_limit ts ≡ Some n → m ≡ n
same_limit ts m n e f = cc

not_past : (ts : List Text) (n : LimitName) → first_limit ts ≡ Some n → first_limit ts ≡ None → ⊥
not_past ts n e f = cc

refused_accepted : (path : List ℕ) (l : ℕ) (k : AppKind) (fs : List File) → refused path l k ≡ accepted fs → ⊥
refused_accepted path l k fs e = cc

strayed_accepted : (path : List ℕ) (l : ℕ) (fs : List File) → strayed path l ≡ accepted fs → ⊥
strayed_accepted path l fs e = cc

not_few : (fs gs : List File) → accepted fs ≡ accepted gs → 20000 < functions_of_all fs → functions_of_all gs ≤ 20000 → ⊥
not_few fs gs e many few =
    let same : fs ≡ gs = cc in
    let counts = ap functions_of_all same in
    omega arith

pub one_of : (setting : Setting) (ts : List Text) (o p : Outcome) → IsOutcome setting ts o → IsOutcome setting ts p → o ≡ p
one_of setting ts _ _ (past_limit {n = n1} e1) (past_limit {n = n2} e2) = ap (λ n. refused [] 0 (Limit n)) (same_limit ts n1 n2 e1 e2)
one_of setting ts _ _ (past_limit {n = n1} e1) (bad_file {path = p2} {l = l2} {k = k2} e2 j2) = absurd (not_past ts n1 e1 e2)
one_of setting ts _ _ (past_limit {n = n1} e1) (stray_word {path = p2} {l = l2} e2 j2) = absurd (not_past ts n1 e1 e2)
one_of setting ts _ _ (past_limit {n = n1} e1) (too_many {fs = f2} e2 j2 h2) = absurd (not_past ts n1 e1 e2)
one_of setting ts _ _ (past_limit {n = n1} e1) (all_good {fs = f2} e2 j2 h2) = absurd (not_past ts n1 e1 e2)
one_of setting ts _ _ (bad_file {path = p1} {l = l1} {k = k1} e1 j1) (past_limit {n = n2} e2) = absurd (not_past ts n2 e2 e1)
one_of setting ts _ _ (bad_file {path = p1} {l = l1} {k = k1} e1 j1) (bad_file {path = p2} {l = l2} {k = k2} e2 j2) = one_told setting ts (refused p1 l1 k1) (refused p2 l2 k2) j1 j2
one_of setting ts _ _ (bad_file {path = p1} {l = l1} {k = k1} e1 j1) (stray_word {path = p2} {l = l2} e2 j2) = one_told setting ts (refused p1 l1 k1) (strayed p2 l2) j1 j2
one_of setting ts _ _ (bad_file {path = p1} {l = l1} {k = k1} e1 j1) (too_many {fs = f2} e2 j2 h2) = absurd (refused_accepted p1 l1 k1 f2 (one_told setting ts (refused p1 l1 k1) (accepted f2) j1 j2))
one_of setting ts _ _ (bad_file {path = p1} {l = l1} {k = k1} e1 j1) (all_good {fs = f2} e2 j2 h2) = absurd (refused_accepted p1 l1 k1 f2 (one_told setting ts (refused p1 l1 k1) (accepted f2) j1 j2))
one_of setting ts _ _ (stray_word {path = p1} {l = l1} e1 j1) (past_limit {n = n2} e2) = absurd (not_past ts n2 e2 e1)
one_of setting ts _ _ (stray_word {path = p1} {l = l1} e1 j1) (bad_file {path = p2} {l = l2} {k = k2} e2 j2) = one_told setting ts (strayed p1 l1) (refused p2 l2 k2) j1 j2
one_of setting ts _ _ (stray_word {path = p1} {l = l1} e1 j1) (stray_word {path = p2} {l = l2} e2 j2) = one_told setting ts (strayed p1 l1) (strayed p2 l2) j1 j2
one_of setting ts _ _ (stray_word {path = p1} {l = l1} e1 j1) (too_many {fs = f2} e2 j2 h2) = absurd (strayed_accepted p1 l1 f2 (one_told setting ts (strayed p1 l1) (accepted f2) j1 j2))
one_of setting ts _ _ (stray_word {path = p1} {l = l1} e1 j1) (all_good {fs = f2} e2 j2 h2) = absurd (strayed_accepted p1 l1 f2 (one_told setting ts (strayed p1 l1) (accepted f2) j1 j2))
one_of setting ts _ _ (too_many {fs = f1} e1 j1 h1) (past_limit {n = n2} e2) = absurd (not_past ts n2 e2 e1)
one_of setting ts _ _ (too_many {fs = f1} e1 j1 h1) (bad_file {path = p2} {l = l2} {k = k2} e2 j2) = absurd (refused_accepted p2 l2 k2 f1 (sym (one_told setting ts (accepted f1) (refused p2 l2 k2) j1 j2)))
one_of setting ts _ _ (too_many {fs = f1} e1 j1 h1) (stray_word {path = p2} {l = l2} e2 j2) = absurd (strayed_accepted p2 l2 f1 (sym (one_told setting ts (accepted f1) (strayed p2 l2) j1 j2)))
one_of setting ts _ _ (too_many {fs = f1} e1 j1 h1) (too_many {fs = f2} e2 j2 h2) = refl
one_of setting ts _ _ (too_many {fs = f1} e1 j1 h1) (all_good {fs = f2} e2 j2 h2) = absurd (not_few f1 f2 (one_told setting ts (accepted f1) (accepted f2) j1 j2) h1 h2)
one_of setting ts _ _ (all_good {fs = f1} e1 j1 h1) (past_limit {n = n2} e2) = absurd (not_past ts n2 e2 e1)
one_of setting ts _ _ (all_good {fs = f1} e1 j1 h1) (bad_file {path = p2} {l = l2} {k = k2} e2 j2) = absurd (refused_accepted p2 l2 k2 f1 (sym (one_told setting ts (accepted f1) (refused p2 l2 k2) j1 j2)))
one_of setting ts _ _ (all_good {fs = f1} e1 j1 h1) (stray_word {path = p2} {l = l2} e2 j2) = absurd (strayed_accepted p2 l2 f1 (sym (one_told setting ts (accepted f1) (strayed p2 l2) j1 j2)))
one_of setting ts _ _ (all_good {fs = f1} e1 j1 h1) (too_many {fs = f2} e2 j2 h2) = absurd (not_few f2 f1 (sym (one_told setting ts (accepted f1) (accepted f2) j1 j2)) h2 h1)
one_of setting ts _ _ (all_good {fs = f1} e1 j1 h1) (all_good {fs = f2} e2 j2 h2) = one_told setting ts (accepted f1) (accepted f2) j1 j2

pub one_outcome : (setting : Setting) (given : List Pair) (o p : Outcome) → IsOutcomeOf setting given o → IsOutcomeOf setting given p → o ≡ p
one_outcome setting given o p a b =
    one_of setting a.texts o p a.told (subst (λ ts. IsOutcome setting ts p) (sym (one_order given a.texts b.texts a.in_order b.in_order)) b.told)
