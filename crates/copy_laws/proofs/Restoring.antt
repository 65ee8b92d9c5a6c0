-- What a tree without its placeholders has of the tree: none of them, and the same findings and functions.
use Rattle.std.proofs.Common.{◌≡◌, ℕ, ◌+◌, List, [], ◌∷◌, ◌++◌, refl, sym, ap, ◌∙◌, map, length}
use Rattle.std.specs.Prelude.{Option, Some, None}
use Rattle.std.proofs.lemmas.List.Sums.{sum_by-cons}
use Rattle.php_tree.specs.Functions.{entry_name, class_prefix, spans, spans_in, arms_spans, cases_spans, clauses_spans, function_spans, members_spans}
use Rattle.php_tree.specs.Statements as s
use Rattle.php_tree.specs.Statements.{Statement, Statements, Arms, Cases, Clauses, Function, Class, Members}
use Rattle.app_load.specs.declared.finding.Sort.{Sort}
use Rattle.app_load.specs.declared.finding.Sort.TheVariants as sort
use Rattle.app_load.specs.Applications.{function_count, functions_of_all}
use Rattle.app_load.specs.Files.{Tree, File}
use Rattle.app_load.specs.Findings.{named, head, constant, property, findings, findings_in, arms_findings, cases_findings, clauses_findings, function_findings, members_findings}
use Rattle.copy_laws.specs.Exact.{AreFree, ArmsFree, CasesFree, ClausesFree, FunctionFree, MembersFree, IsFreeOrNone, FilesFree}
use Rattle.copy_laws.specs.Originals.{findings_or_none, all_findings, spans_or_none, all_spans}
use Rattle.copy_laws.specs.Restored.{restored_before, restored, restored_arms, restored_cases, restored_clauses, restored_function, restored_members, restored_or_none, restored_file, restored_files}

-- two parts of a list, each with what it is
both : {A : Type 0} {a b x y : List A} → a ≡ b → x ≡ y → a ++ x ≡ b ++ y
both {A} {a} {b} {x} {y} e f = ap (λ l. l ++ x) e ∙ ap (λ l. b ++ l) f

-- ---- no placeholder

mutual
  free_before : (x : Statement (List ℕ)) (rest : Tree) → AreFree rest → AreFree (restored_before x rest)
  free_before (s.block ss l) rest f = (all_free ss, f)
  free_before (s.conditional arms ss l) rest f = ((arms_free arms, all_free ss), f)
  free_before (s.while_loop e ss l) rest f = (all_free ss, f)
  free_before (s.do_loop ss e l) rest f = (all_free ss, f)
  free_before (s.for_loop a b c ss l) rest f = (all_free ss, f)
  free_before (s.foreach e k v ss l) rest f = (all_free ss, f)
  free_before (s.switch e arms l) rest f = (cases_free arms, f)
  free_before (s.try ss cs l) rest f = ((all_free ss, clauses_free cs), f)
  free_before (s.function g l) rest f = (function_free g, f)
  free_before (s.class (s.with_members k n e is ms i) l) rest f = (members_free ms, f)
  free_before (s.removed what path name l) rest f = f
  free_before x rest f = (tt {0}, f)

  pub all_free : (ss : Tree) → AreFree (restored ss)
  all_free s.no_more = tt {0}
  all_free (s.statement x xs) = free_before x (restored xs) (all_free xs)

  arms_free : (xs : Arms (List ℕ)) → ArmsFree (restored_arms xs)
  arms_free s.no_arms = tt {0}
  arms_free (s.arm e ss xs) = (all_free ss, arms_free xs)

  cases_free : (xs : Cases (List ℕ)) → CasesFree (restored_cases xs)
  cases_free s.no_cases = tt {0}
  cases_free (s.case e ss xs) = (all_free ss, cases_free xs)
  cases_free (s.default_case ss xs) = (all_free ss, cases_free xs)

  clauses_free : (xs : Clauses (List ℕ)) → ClausesFree (restored_clauses xs)
  clauses_free s.no_clauses = tt {0}
  clauses_free (s.clause ns v ss xs) = (all_free ss, clauses_free xs)

  function_free : (f : Function (List ℕ)) → FunctionFree (restored_function f)
  function_free (s.with_body h ss at) = all_free ss

  members_free : (ms : Members (List ℕ)) → MembersFree (restored_members ms)
  members_free s.no_members = tt {0}
  members_free (s.class_constants cs l ms) = members_free ms
  members_free (s.properties mods ps l ms) = members_free ms
  members_free (s.method mods f l ms) = (function_free f, members_free ms)
  members_free (s.bodiless mods h l ms) = members_free ms

free_or_none : (t : Option Tree) → IsFreeOrNone (restored_or_none t)
free_or_none None = tt {0}
free_or_none (Some ss) = all_free ss

pub files_free : (gs : List File) → FilesFree (restored_files gs)
files_free [] = tt {0}
files_free (g ∷ gs) = (free_or_none g.tree, files_free gs)

-- ---- the same findings

module _ (t : List ℕ → List ℕ) where
  mutual
    found_before : (n : ℕ) (x : Statement (List ℕ)) (rest : Tree) → findings_in t n (restored_before x rest) ≡ findings t n x ++ findings_in t n rest
    found_before n (s.block ss l) rest = both (all_found n ss) refl
    found_before n (s.conditional arms ss l) rest = both (both (arms_found n arms) (all_found n ss)) refl
    found_before n (s.while_loop e ss l) rest = both (all_found (n + 1) ss) refl
    found_before n (s.do_loop ss e l) rest = both (all_found (n + 1) ss) refl
    found_before n (s.for_loop a b c ss l) rest = both (all_found (n + 1) ss) refl
    found_before n (s.foreach e k v ss l) rest = both (all_found (n + 1) ss) refl
    found_before n (s.switch e arms l) rest = both (cases_found (n + 1) arms) refl
    found_before n (s.try ss cs l) rest = both (both (all_found n ss) (clauses_found n cs)) refl
    found_before n (s.function f l) rest = both (function_found sort.Function [] f) refl
    found_before n (s.class (s.with_members k c e is ms i) l) rest = both (ap (λ fs. named sort.Class [] [] c.text c.line ∷ fs) (members_found c.text ms)) refl
    found_before n (s.removed what path name l) rest = refl
    found_before n x rest = refl

    pub all_found : (n : ℕ) (ss : Tree) → findings_in t n (restored ss) ≡ findings_in t n ss
    all_found n s.no_more = refl
    all_found n (s.statement x xs) = found_before n x (restored xs) ∙ ap (λ fs. findings t n x ++ fs) (all_found n xs)

    arms_found : (n : ℕ) (xs : Arms (List ℕ)) → arms_findings t n (restored_arms xs) ≡ arms_findings t n xs
    arms_found n s.no_arms = refl
    arms_found n (s.arm e ss xs) = both (all_found n ss) (arms_found n xs)

    cases_found : (n : ℕ) (xs : Cases (List ℕ)) → cases_findings t n (restored_cases xs) ≡ cases_findings t n xs
    cases_found n s.no_cases = refl
    cases_found n (s.case e ss xs) = both (all_found n ss) (cases_found n xs)
    cases_found n (s.default_case ss xs) = both (all_found n ss) (cases_found n xs)

    clauses_found : (n : ℕ) (xs : Clauses (List ℕ)) → clauses_findings t n (restored_clauses xs) ≡ clauses_findings t n xs
    clauses_found n s.no_clauses = refl
    clauses_found n (s.clause ns v ss xs) = both (all_found n ss) (clauses_found n xs)

    function_found : (k : Sort) (class : List ℕ) (f : Function (List ℕ)) → function_findings t k class (restored_function f) ≡ function_findings t k class f
    function_found k class (s.with_body h ss at) = ap (λ fs. head t k class h ++ fs) (all_found 0 ss)

    members_found : (class : List ℕ) (ms : Members (List ℕ)) → members_findings t class (restored_members ms) ≡ members_findings t class ms
    members_found class s.no_members = refl
    members_found class (s.class_constants cs l ms) = ap (λ fs. map (constant class) cs ++ fs) (members_found class ms)
    members_found class (s.properties mods ps l ms) = ap (λ fs. map (property class) ps ++ fs) (members_found class ms)
    members_found class (s.method mods f l ms) = both (function_found sort.Method class f) (members_found class ms)
    members_found class (s.bodiless mods h l ms) = ap (λ fs. head t sort.Method class h ++ fs) (members_found class ms)

pub found_or_none : (t : Option Tree) → findings_or_none (restored_or_none t) ≡ findings_or_none t
found_or_none None = refl
found_or_none (Some ss) = all_found (λ name. name) 0 ss

pub files_found : (gs : List File) → all_findings (restored_files gs) ≡ all_findings gs
files_found [] = refl
files_found (g ∷ gs) = ap (λ fs. fs ∷ all_findings (restored_files gs)) (found_or_none g.tree) ∙ ap (λ ffs. findings_or_none g.tree ∷ ffs) (files_found gs)

-- ---- the same functions

mutual
  spans_before : (x : Statement (List ℕ)) (rest : Tree) → spans_in (restored_before x rest) ≡ spans x ++ spans_in rest
  spans_before (s.block ss l) rest = both (all_spanned ss) refl
  spans_before (s.conditional arms ss l) rest = both (both (arms_spanned arms) (all_spanned ss)) refl
  spans_before (s.while_loop e ss l) rest = both (all_spanned ss) refl
  spans_before (s.do_loop ss e l) rest = both (all_spanned ss) refl
  spans_before (s.for_loop a b c ss l) rest = both (all_spanned ss) refl
  spans_before (s.foreach e k v ss l) rest = both (all_spanned ss) refl
  spans_before (s.switch e arms l) rest = both (cases_spanned arms) refl
  spans_before (s.try ss cs l) rest = both (both (all_spanned ss) (clauses_spanned cs)) refl
  spans_before (s.function f l) rest = both (function_spanned [] f) refl
  spans_before (s.class (s.with_members k c e is ms i) l) rest = both (members_spanned (class_prefix c.text) ms) refl
  spans_before (s.removed what path name l) rest = refl
  spans_before x rest = refl

  pub all_spanned : (ss : Tree) → spans_in (restored ss) ≡ spans_in ss
  all_spanned s.no_more = refl
  all_spanned (s.statement x xs) = spans_before x (restored xs) ∙ ap (λ l. spans x ++ l) (all_spanned xs)

  arms_spanned : (xs : Arms (List ℕ)) → arms_spans (restored_arms xs) ≡ arms_spans xs
  arms_spanned s.no_arms = refl
  arms_spanned (s.arm e ss xs) = both (all_spanned ss) (arms_spanned xs)

  cases_spanned : (xs : Cases (List ℕ)) → cases_spans (restored_cases xs) ≡ cases_spans xs
  cases_spanned s.no_cases = refl
  cases_spanned (s.case e ss xs) = both (all_spanned ss) (cases_spanned xs)
  cases_spanned (s.default_case ss xs) = both (all_spanned ss) (cases_spanned xs)

  clauses_spanned : (xs : Clauses (List ℕ)) → clauses_spans (restored_clauses xs) ≡ clauses_spans xs
  clauses_spanned s.no_clauses = refl
  clauses_spanned (s.clause ns v ss xs) = both (all_spanned ss) (clauses_spanned xs)

  function_spanned : (before : List ℕ) (f : Function (List ℕ)) → function_spans before (restored_function f) ≡ function_spans before f
  function_spanned before (s.with_body h ss at) = ap (λ l. (entry_name before h, at) ∷ l) (all_spanned ss)

  members_spanned : (before : List ℕ) (ms : Members (List ℕ)) → members_spans before (restored_members ms) ≡ members_spans before ms
  members_spanned before s.no_members = refl
  members_spanned before (s.class_constants cs l ms) = members_spanned before ms
  members_spanned before (s.properties mods ps l ms) = members_spanned before ms
  members_spanned before (s.method mods f l ms) = both (function_spanned before f) (members_spanned before ms)
  members_spanned before (s.bodiless mods h l ms) = members_spanned before ms

spans_alike : (t : Option Tree) → spans_or_none (restored_or_none t) ≡ spans_or_none t
spans_alike None = refl
spans_alike (Some ss) = all_spanned ss

pub files_spanned : (gs : List File) → all_spans (restored_files gs) ≡ all_spans gs
files_spanned [] = refl
files_spanned (g ∷ gs) = ap (λ l. l ∷ all_spans (restored_files gs)) (spans_alike g.tree) ∙ ap (λ ls. spans_or_none g.tree ∷ ls) (files_spanned gs)

count_alike : (t : Option Tree) → function_count (restored_or_none t) ≡ function_count t
count_alike None = refl
count_alike (Some ss) = ap length (all_spanned ss)

abbrev counted : File → ℕ
counted f = function_count f.tree

pub files_counted : (gs : List File) → functions_of_all (restored_files gs) ≡ functions_of_all gs
files_counted [] = refl
files_counted (g ∷ gs) =
    sum_by-cons counted (restored_file g) (restored_files gs)
    ∙ (ap (λ n. n + functions_of_all (restored_files gs)) (count_alike g.tree)
    ∙ (ap (λ n. function_count g.tree + n) (files_counted gs)
    ∙ sym (sum_by-cons counted g gs)))
