-- What holds of the files of an accepted application or copy.
use Rattle.std.proofs.Common.{◌≡◌, ℕ, ◌≤◌, Bool, true, false, List, [], ◌∷◌, ◌++◌, refl, sym, ap, subst, ◌∙◌, map, true≢false, String, Vec, Less}
use Rattle.std.specs.Prelude.{Option, Some, None, if◌then◌else◌, ⊤}
use Rattle.std.specs.List.{AllByRecursion}
use Rattle.std.specs.List.Sorted.{IsStrictlySortedBy}
use Rattle.std.specs.Ordering.{nat_cmp, is_eq}
use Rattle.std.specs.Cmp.Lexicographic.{slice_cmp}
use Rattle.std.specs.Str.{bytes_eq}
use Rattle.std.specs.declared.alloc.Global.{Global}
use Rattle.std.proofs.lemmas.Map.Text.{is_eq-slice_cmp}
use Rattle.php_tree.specs.declared.file.FileTree.{FileTree}
use Rattle.php_tree.specs.Parts.{all_without_bodies, bodies_in}
use Rattle.php_tree.specs.Renamed.{name_at}
use Rattle.php_tree.specs.StatementOf.{statements_of}
use Rattle.app_load.specs.declared.judge.Setting.{Setting}
use Rattle.app_load.specs.Applications.{Text, Outcome, accepted, refused, strayed, with_file, FilesJudged, no_more, static, php, php_bad, php_stray, functions_of_all, IsOutcome, past_limit, bad_file, stray_word, too_many, all_good, IsOutcomeOf}
use Rattle.app_load.specs.CopyParts.{StandOnce, path_of}
use Rattle.app_load.specs.Entries.{Entry, file, function}
use Rattle.app_load.specs.Files.{Tree, File, tree_of}
use Rattle.app_load.specs.Judged.{Verdict, good, Judged, fine, file_findings}
use Rattle.app_load.specs.Parts.{Parts, part_of, body_entry, part_at, parts, parts_or_none, file_parts}
use Rattle.app_load.specs.Twice.{first_twice, first_leaving}
use Rattle.app_load.proofs.Bodies.{Bodies, named_alike, names_itself, AreOnce}
use Rattle.app_load.proofs.PartsOf.{or_part, part_append, part_or_none, body_here, body_elsewhere, no_file}
use Rattle.copy_laws.specs.Originals.{tree_findings, findings_or_none, PassRules}
use Rattle.plain_names.specs.Words.{ArePlain}
use Rattle.plain_names.proofs.Lexemes.{tree_plain}
use Rattle.copy_laws.proofs.Once.{bodies_once}
use Rattle.copy_laws.proofs.Renaming.{all_found}

-- ---- the rules

abbrev PassesRules : Option Tree → Type 0
PassesRules t = (first_twice (findings_or_none t) ≡ None) × (first_leaving (findings_or_none t) ≡ None)

same_findings : (t : FileTree) → tree_findings (tree_of t) ≡ file_findings t
same_findings t = all_found (name_at t.variables) 0 (statements_of t.stmts)

abbrev IsPassing : Option Tree → Type 0
IsPassing t = PassesRules t × ArePlain (findings_or_none t)

abbrev IfGood : Verdict → Type 0
IfGood (good ss) = IsPassing (Some ss)
IfGood v = ⊤

judged_passes : (setting : Setting) (path text : List ℕ) (v : Verdict) → Judged setting path text v → IfGood v
judged_passes setting path text _ (fine {ms = ms} {tree = tree} parsed once within) = (
  (ap first_twice (same_findings tree) ∙ once, ap first_leaving (same_findings tree) ∙ within),
  subst ArePlain (sym (same_findings tree)) (tree_plain text ms tree parsed.read.tokens parsed.tree_of),
)
judged_passes setting path text _ _ = tt {0}

-- ---- files

record IsPassed (t : Text) (f : File) : Type 0 where
  path : f.path ≡ t.0
  passing : IsPassing f.tree

abbrev ArePassed : List Text → List File → Type 0
ArePassed [] [] = ⊤
ArePassed (t ∷ ts) (f ∷ fs) = IsPassed t f × ArePassed ts fs
ArePassed _ _ = ⊥

abbrev IfAccepted : List Text → Outcome → Type 0
IfAccepted ts (accepted fs) = ArePassed ts fs
IfAccepted ts o = ⊤

with_one : (t : Text) (f : File) (ts : List Text) (o : Outcome) → IsPassed t f → IfAccepted ts o → IfAccepted (t ∷ ts) (with_file f o)
with_one t f ts (accepted fs) p h = (p, h)
with_one t f ts (refused path l k) p h = tt {0}
with_one t f ts (strayed path l) p h = tt {0}

files_passed : (setting : Setting) (ts : List Text) (o : Outcome) → FilesJudged setting ts o → IfAccepted ts o
files_passed setting _ _ no_more = tt {0}
files_passed setting _ _ (static {path = path} {text = text} {ts = ts} {o = o} e r) =
    with_one (path, text) (record { path = path; text = text; tree = None }) ts o (record { path = refl; passing = ((refl, refl), tt {0}) }) (files_passed setting ts o r)
files_passed setting _ _ (php {path = path} {text = text} {tree = tree} {ts = ts} {o = o} e j r) =
    with_one (path, text) (record { path = path; text = text; tree = Some tree }) ts o (record { path = refl; passing = judged_passes setting path text (good tree) j }) (files_passed setting ts o r)
files_passed setting _ _ (php_bad e j) = tt {0}
files_passed setting _ _ (php_stray e j) = tt {0}

outcome_passed : (setting : Setting) (ts : List Text) (o : Outcome) → IsOutcome setting ts o → IfAccepted ts o
outcome_passed setting ts _ (all_good {fs = fs} within judged few) = files_passed setting ts (accepted fs) judged
outcome_passed setting ts _ (past_limit e) = tt {0}
outcome_passed setting ts _ (bad_file e j) = tt {0}
outcome_passed setting ts _ (stray_word e j) = tt {0}
outcome_passed setting ts _ (too_many e j f) = tt {0}

abbrev IfFew : Outcome → Type 0
IfFew (accepted fs) = functions_of_all fs ≤ 20000
IfFew o = ⊤

outcome_few : (setting : Setting) (ts : List Text) (o : Outcome) → IsOutcome setting ts o → IfFew o
outcome_few setting ts _ (all_good within judged few) = few
outcome_few setting ts _ (past_limit e) = tt {0}
outcome_few setting ts _ (bad_file e j) = tt {0}
outcome_few setting ts _ (stray_word e j) = tt {0}
outcome_few setting ts _ (too_many e j f) = tt {0}

-- ---- the entries of one file

bodies_stand : (path : List ℕ) (bs : Bodies) → AreOnce bs → StandOnce (map (body_entry path) bs)
bodies_stand path [] o = tt {0}
bodies_stand path ((m, b) ∷ bs) o = (body_here path path m bs (names_itself path) ∙ ap part_or_none o.0, bodies_stand path bs o.1)

file_stands : (path : List ℕ) (t : Option Tree) → IsPassing t → StandOnce (parts_or_none path t)
file_stands path None r = tt {0}
file_stands path (Some ss) r = (no_file path path (bodies_in ss), bodies_stand path (bodies_in ss) (bodies_once (λ name. name) ss r.0.0 r.1))

-- ---- other files

abbrev IsOther : List ℕ → List File → Type 0
IsOther path [] = ⊤
IsOther path (g ∷ gs) = (bytes_eq g.path path ≡ false) × IsOther path gs

elsewhere : (path : List ℕ) (t : Option Tree) (e : Entry) → bytes_eq path (path_of e) ≡ false → part_at (parts_or_none path t) e ≡ None
elsewhere path None e other = refl
elsewhere path (Some ss) (file q) other = ap (λ c. if c then Some (part_of (all_without_bodies ss)) else part_at (map (body_entry path) (bodies_in ss)) (file q)) other ∙ no_file path q (bodies_in ss)
elsewhere path (Some ss) (function q n) other = body_elsewhere path q n (bodies_in ss) other

not_there : (gs : List File) (e : Entry) → IsOther (path_of e) gs → part_at (parts gs) e ≡ None
not_there [] e other = refl
not_there (g ∷ gs) e other =
    part_append e (file_parts g) (parts gs)
    ∙ (ap (λ x. or_part x (part_at (parts gs) e)) (elsewhere g.path g.tree e other.0) ∙ not_there gs e other.1)

abbrev AreAbsent : Parts → Parts → Type 0
AreAbsent qs [] = ⊤
AreAbsent qs ((e, p) ∷ ps) = (part_at qs e ≡ None) × AreAbsent qs ps

stand_both : (ps qs : Parts) → StandOnce ps → StandOnce qs → AreAbsent qs ps → StandOnce (ps ++ qs)
stand_both [] qs o u a = u
stand_both ((e, p) ∷ ps) qs o u a = (part_append e ps qs ∙ (ap (λ x. or_part x (part_at qs e)) o.0 ∙ a.0), stand_both ps qs o.1 u a.1)

bodies_absent : (path : List ℕ) (bs : Bodies) (gs : List File) → IsOther path gs → AreAbsent (parts gs) (map (body_entry path) bs)
bodies_absent path [] gs other = tt {0}
bodies_absent path ((m, b) ∷ bs) gs other = (not_there gs (function path m) other, bodies_absent path bs gs other)

file_absent : (path : List ℕ) (t : Option Tree) (gs : List File) → IsOther path gs → AreAbsent (parts gs) (parts_or_none path t)
file_absent path None gs other = tt {0}
file_absent path (Some ss) gs other = (not_there gs (file path) other, bodies_absent path (bodies_in ss) gs other)

-- ---- paths in order

differ : (p q : List ℕ) (c : Bool) → slice_cmp nat_cmp p q ≡ Less → bytes_eq q p ≡ c → bytes_eq q p ≡ false
differ p q true less same =
    absurd (true≢false (sym (names_itself p) ∙ (ap (bytes_eq p) (sym (named_alike q p same)) ∙ (sym (is_eq-slice_cmp p q) ∙ ap is_eq less))))
differ p q false less same = same

others : (p : List ℕ) (ts : List Text) (gs : List File) → ArePassed ts gs → AllByRecursion (λ q. slice_cmp nat_cmp p q ≡ Less) (map (λ t. t.0) ts) → IsOther p gs
others p [] [] passed below = tt {0}
others p (t ∷ ts) (g ∷ gs) passed below =
    (ap (λ q. bytes_eq q p) passed.0.path ∙ differ p t.0 (bytes_eq t.0 p) below.0 refl, others p ts gs passed.1 below.1)
others p [] (g ∷ gs) passed below = absurd passed
others p (t ∷ ts) [] passed below = absurd passed

files_stand : (ts : List Text) (gs : List File) → ArePassed ts gs → IsStrictlySortedBy (slice_cmp nat_cmp) (map (λ t. t.0) ts) → StandOnce (parts gs)
unfolding IsStrictlySortedBy
files_stand [] [] passed sorted = tt {0}
files_stand (t ∷ ts) (g ∷ gs) passed sorted =
    stand_both (file_parts g) (parts gs) (file_stands g.path g.tree passed.0.passing) (files_stand ts gs passed.1 sorted.1)
    (file_absent g.path g.tree gs (subst (λ p. IsOther p gs) (sym passed.0.path) (others t.0 ts gs passed.1 sorted.0)))
files_stand [] (g ∷ gs) passed sorted = absurd passed
files_stand (t ∷ ts) [] passed sorted = absurd passed

pub entries_once : (setting : Setting) (given : List (String Global × Vec ℕ Global)) (fs : List File) → IsOutcomeOf setting given (accepted fs) → StandOnce (parts fs)
entries_once setting given fs is = files_stand is.texts fs (outcome_passed setting is.texts (accepted fs) is.told) is.in_order.ascending

rules_passed : (ts : List Text) (fs : List File) → ArePassed ts fs → PassRules fs
rules_passed [] [] p = tt {0}
rules_passed (t ∷ ts) (f ∷ fs) p = (p.0.passing.0, rules_passed ts fs p.1)
rules_passed [] (f ∷ fs) p = absurd p
rules_passed (t ∷ ts) [] p = absurd p

pub accepted_passes : (setting : Setting) (given : List (String Global × Vec ℕ Global)) (fs : List File) → IsOutcomeOf setting given (accepted fs) → PassRules fs
accepted_passes setting given fs is = rules_passed is.texts fs (outcome_passed setting is.texts (accepted fs) is.told)

pub accepted_few : (setting : Setting) (given : List (String Global × Vec ℕ Global)) (fs : List File) → IsOutcomeOf setting given (accepted fs) → functions_of_all fs ≤ 20000
accepted_few setting given fs is = outcome_few setting is.texts (accepted fs) is.told
