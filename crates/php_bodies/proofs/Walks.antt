-- An element of a list in front of the others, with its bodies.
use Rattle.std.proofs.Common.{◌≡◌, ℕ, List, [], ◌∷◌, ◌++◌, map, sym, ap, ◌∙◌}
use Rattle.std.proofs.lemmas.List.{map-append}
use Rattle.std.specs.Str.{str_to_ascii_lowercase}
use Rattle.php_tree.specs.declared.name.ClassName.{ClassName}
use Rattle.php_tree.specs.declared.expr.Expr.{Expr}
use Rattle.php_tree.specs.declared.stmt.Stmt.{Stmt}
use Rattle.php_tree.specs.declared.stmt.IfArm.{IfArm, out-IfArm}
use Rattle.php_tree.specs.declared.stmt.Catch.{Catch, out-Catch}
use Rattle.php_tree.specs.declared.stmt.IfArm.TheVariants as a
use Rattle.php_tree.specs.declared.stmt.SwitchArm.TheVariants as w
use Rattle.php_tree.specs.declared.stmt.Catch.TheVariants as c
use Rattle.php_tree.specs.declared.decl.ClassDecl.{ClassDecl, out-ClassDecl}
use Rattle.php_tree.specs.declared.decl.FunDecl.{FunDecl, out-FunDecl}
use Rattle.php_tree.specs.Functions.{class_prefix}
use Rattle.php_tree.specs.Parts.{all_without_bodies, function_bodies, bodies_in, arms_bodies, cases_bodies, clauses_bodies, class_bodies, members_bodies}
use Rattle.php_tree.specs.Statements.{Statements, Arms, Cases, Clauses}
use Rattle.php_tree.specs.StatementOf.{arm_of, case_of, catch_of, class_of, function_of, members_of, statements_of}
use Rattle.php_tree.proofs.Statements.{arm_of-Arm, case_of-Case, case_of-Default, catch_of-Clause, class_of-out, function_of-out}
use Rattle.app_load.specs.Findings.{arm_body, clause_body}
use Rattle.php_bodies.specs.Collected.{body_of, bodies_of}
use Rattle.php_bodies.specs.declared.collect.Body.{Body}
use Rattle.app_load.proofs.Walks.{adds_twice, arm_is, arm_test, clause_is, clause_names, clause_var}

arm_in_front : (e : Expr) (ss : List Stmt) (rest : Arms ℕ) → arms_bodies (arm_of (a.Arm e ss) rest) ≡ bodies_in (statements_of ss) ++ arms_bodies rest
arm_in_front e ss rest = ap (λ f. arms_bodies (f rest)) (arm_of-Arm e ss)

pub arm_opened : (x : IfArm) (rest : Arms ℕ) → arms_bodies (arm_of x rest) ≡ bodies_in (statements_of (arm_body (out-IfArm x))) ++ arms_bodies rest
arm_opened x rest = ap (λ z. arms_bodies (arm_of z rest)) (arm_is x) ∙ arm_in_front (arm_test (out-IfArm x)) (arm_body (out-IfArm x)) rest

pub case_in_front : (e : Expr) (ss : List Stmt) (rest : Cases ℕ) → cases_bodies (case_of (w.Case e ss) rest) ≡ bodies_in (statements_of ss) ++ cases_bodies rest
case_in_front e ss rest = ap (λ f. cases_bodies (f rest)) (case_of-Case e ss)

pub default_in_front : (ss : List Stmt) (rest : Cases ℕ) → cases_bodies (case_of (w.Default ss) rest) ≡ bodies_in (statements_of ss) ++ cases_bodies rest
default_in_front ss rest = ap (λ f. cases_bodies (f rest)) (case_of-Default ss)

clause_in_front : (v : ℕ) (names : List ClassName) (ss : List Stmt) (rest : Clauses ℕ) → clauses_bodies (catch_of (c.Clause names v ss) rest) ≡ bodies_in (statements_of ss) ++ clauses_bodies rest
clause_in_front v names ss rest = ap (λ f. clauses_bodies (f rest)) (catch_of-Clause names v ss)

pub clause_opened : (x : Catch) (rest : Clauses ℕ) → clauses_bodies (catch_of x rest) ≡ bodies_in (statements_of (clause_body (out-Catch x))) ++ clauses_bodies rest
clause_opened x rest = ap (λ z. clauses_bodies (catch_of z rest)) (clause_is x) ∙ clause_in_front (clause_var (out-Catch x)) (clause_names (out-Catch x)) (clause_body (out-Catch x)) rest

-- the bodies of a class are those of its members
pub class_opened : (d : ClassDecl) → class_bodies (class_of d) ≡ members_bodies (class_prefix (out-ClassDecl d).name.text) (members_of (out-ClassDecl d).members)
class_opened d = ap class_bodies (class_of-out d)

-- a function is its body and the bodies inside it
pub function_opened : (before : List ℕ) (f : FunDecl) → function_bodies before (function_of f) ≡ (before ++ str_to_ascii_lowercase (out-FunDecl f).name.text, all_without_bodies (statements_of (out-FunDecl f).body)) ∷ bodies_in (statements_of (out-FunDecl f).body)
function_opened before f = ap (function_bodies before) (function_of-out f)

pub one_more : (bodies : List Body) (b : Body) → bodies_of (bodies ++ b ∷ []) ≡ bodies_of bodies ++ body_of b ∷ []
one_more bodies b = map-append body_of bodies (b ∷ [])

pub function_collected : (a b c : List (List ℕ × Statements ℕ)) (before name : List ℕ) (body : List Stmt) (f : FunDecl) → name ≡ (out-FunDecl f).name.text → body ≡ (out-FunDecl f).body
    → b ≡ a ++ (before ++ str_to_ascii_lowercase name, all_without_bodies (statements_of (out-FunDecl f).body)) ∷ [] → c ≡ b ++ bodies_in (statements_of body) → c ≡ a ++ function_bodies before (function_of f)
function_collected a b c before name body f n s e g =
    adds_twice a b c ((before ++ str_to_ascii_lowercase name, all_without_bodies (statements_of (out-FunDecl f).body)) ∷ []) (bodies_in (statements_of body)) e g
    ∙ ap (λ m. a ++ (before ++ str_to_ascii_lowercase m, all_without_bodies (statements_of (out-FunDecl f).body)) ∷ bodies_in (statements_of body)) n
    ∙ ap (λ ss. a ++ (before ++ str_to_ascii_lowercase (out-FunDecl f).name.text, all_without_bodies (statements_of (out-FunDecl f).body)) ∷ bodies_in (statements_of ss)) s
    ∙ ap (λ l. a ++ l) (sym (function_opened before f))
