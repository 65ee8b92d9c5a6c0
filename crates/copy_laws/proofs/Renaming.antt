-- The findings of a tree are those of the tree with variables by name.
use Rattle.std.proofs.Common.{◌≡◌, ℕ, ◌+◌, List, [], ◌∷◌, ◌++◌, refl, ap, ◌∙◌, map, Option}
use Rattle.php_tree.specs.declared.name.MemberName.{MemberName}
use Rattle.php_tree.specs.Expressions.{Expression}
use Rattle.php_tree.specs.Renamed.{renamed_parameter, renamed_head, renamed_constants, renamed_defaults, renamed_statement, renamed_statements, renamed_arms, renamed_cases, renamed_clauses, renamed_function, renamed_members}
use Rattle.php_tree.specs.Statements as s
use Rattle.php_tree.specs.Statements.{Parameter, Head, Statement, Statements, Arms, Cases, Clauses, Function, Class, Members}
use Rattle.app_load.specs.declared.finding.Sort.{Sort}
use Rattle.app_load.specs.declared.finding.Sort.TheVariants as sort
use Rattle.app_load.specs.Findings.{named, parameter, head, constant, property, findings, findings_in, arms_findings, cases_findings, clauses_findings, function_findings, members_findings}

-- two parts of a list, each with what it is
both : {A : Type 0} {a b x y : List A} → a ≡ b → x ≡ y → a ++ x ≡ b ++ y
both {A} {a} {b} {x} {y} e f = ap (λ l. l ++ x) e ∙ ap (λ l. b ++ l) f

module _ (f : ℕ → List ℕ) where
  abbrev by_name : List ℕ → List ℕ
  by_name name = name

  parameters_found : (class word : List ℕ) (ps : List (Parameter ℕ)) → map (parameter by_name class word) (map (renamed_parameter f) ps) ≡ map (parameter f class word) ps
  parameters_found class word [] = refl
  parameters_found class word (p ∷ ps) = ap (λ l. parameter f class word p ∷ l) (parameters_found class word ps)

  head_found : (k : Sort) (class : List ℕ) (h : Head ℕ) → head by_name k class (renamed_head f h) ≡ head f k class h
  head_found k class h = ap (λ l. named k class [] h.name.text h.name.line ∷ l) (parameters_found class h.name.text h.parameters)

  constants_found : (class : List ℕ) (cs : List (MemberName × Expression ℕ)) → map (constant class) (renamed_constants f cs) ≡ map (constant class) cs
  constants_found class [] = refl
  constants_found class ((n, e) ∷ cs) = ap (λ l. constant class (n, e) ∷ l) (constants_found class cs)

  properties_found : (class : List ℕ) (ps : List (MemberName × Option (Expression ℕ))) → map (property class) (renamed_defaults f ps) ≡ map (property class) ps
  properties_found class [] = refl
  properties_found class ((n, e) ∷ ps) = ap (λ l. property class (n, e) ∷ l) (properties_found class ps)

  mutual
    found : (n : ℕ) (x : Statement ℕ) → findings by_name n (renamed_statement f x) ≡ findings f n x
    found n (s.block ss l) = all_found n ss
    found n (s.conditional arms ss l) = both (arms_found n arms) (all_found n ss)
    found n (s.while_loop e ss l) = all_found (n + 1) ss
    found n (s.do_loop ss e l) = all_found (n + 1) ss
    found n (s.for_loop a b c ss l) = all_found (n + 1) ss
    found n (s.foreach e k v ss l) = all_found (n + 1) ss
    found n (s.switch e arms l) = cases_found (n + 1) arms
    found n (s.try ss cs l) = both (all_found n ss) (clauses_found n cs)
    found n (s.function g l) = function_found sort.Function [] g
    found n (s.class (s.with_members k c e is ms i) l) = ap (λ fs. named sort.Class [] [] c.text c.line ∷ fs) (members_found c.text ms)
    found n x = refl

    pub all_found : (n : ℕ) (ss : Statements ℕ) → findings_in by_name n (renamed_statements f ss) ≡ findings_in f n ss
    all_found n s.no_more = refl
    all_found n (s.statement x xs) = both (found n x) (all_found n xs)

    arms_found : (n : ℕ) (xs : Arms ℕ) → arms_findings by_name n (renamed_arms f xs) ≡ arms_findings f n xs
    arms_found n s.no_arms = refl
    arms_found n (s.arm e ss xs) = both (all_found n ss) (arms_found n xs)

    cases_found : (n : ℕ) (xs : Cases ℕ) → cases_findings by_name n (renamed_cases f xs) ≡ cases_findings f n xs
    cases_found n s.no_cases = refl
    cases_found n (s.case e ss xs) = both (all_found n ss) (cases_found n xs)
    cases_found n (s.default_case ss xs) = both (all_found n ss) (cases_found n xs)

    clauses_found : (n : ℕ) (xs : Clauses ℕ) → clauses_findings by_name n (renamed_clauses f xs) ≡ clauses_findings f n xs
    clauses_found n s.no_clauses = refl
    clauses_found n (s.clause ns v ss xs) = both (all_found n ss) (clauses_found n xs)

    function_found : (k : Sort) (class : List ℕ) (g : Function ℕ) → function_findings by_name k class (renamed_function f g) ≡ function_findings f k class g
    function_found k class (s.with_body h ss at) = both (head_found k class h) (all_found 0 ss)

    members_found : (class : List ℕ) (ms : Members ℕ) → members_findings by_name class (renamed_members f ms) ≡ members_findings f class ms
    members_found class s.no_members = refl
    members_found class (s.class_constants cs l ms) = both (constants_found class cs) (members_found class ms)
    members_found class (s.properties mods ps l ms) = both (properties_found class ps) (members_found class ms)
    members_found class (s.method mods g l ms) = both (function_found sort.Method class g) (members_found class ms)
    members_found class (s.bodiless mods h l ms) = both (head_found sort.Method class h) (members_found class ms)
