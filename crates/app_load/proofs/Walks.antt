-- Findings that stand one behind the other.
use Rattle.std.proofs.Common.{◌≡◌, ℕ, List, [], ◌∷◌, ◌++◌, append_assoc, sym, ap, ◌∙◌}
use Rattle.php_tree.specs.declared.name.ClassName.{ClassName}
use Rattle.php_tree.specs.declared.expr.Expr.{Expr}
use Rattle.php_tree.specs.declared.stmt.Stmt.{Stmt}
use Rattle.php_tree.specs.declared.stmt.IfArm.{IfArm, out-IfArm, roll-IfArm, roll-out-IfArm}
use Rattle.php_tree.specs.declared.stmt.Catch.{Catch, out-Catch, roll-Catch, roll-out-Catch}
use Rattle.php_tree.specs.declared.stmt.SwitchArm.{SwitchArm}
use Rattle.php_tree.specs.declared.decl.Member.{Member}
use Rattle.php_tree.specs.declared.decl.FunDecl.{FunDecl}
use Rattle.php_tree.specs.declared.decl.Member.TheOpen.{IfArm-F, Catch-F}
use Rattle.php_tree.specs.declared.stmt.IfArm.TheVariants as a
use Rattle.php_tree.specs.declared.stmt.SwitchArm.TheVariants as w
use Rattle.php_tree.specs.declared.stmt.Catch.TheVariants as c
use Rattle.php_tree.specs.declared.decl.ClassDecl.{ClassDecl, out-ClassDecl}
use Rattle.php_tree.specs.Statements.{Arms, Cases, Clauses}
use Rattle.php_tree.specs.StatementOf.{arm_of, case_of, catch_of, class_of, members_of, statements_of}
use Rattle.php_tree.proofs.Statements.{arm_of-Arm, case_of-Case, case_of-Default, catch_of-Clause, class_of-out}
use Rattle.app_load.specs.declared.finding.Sort.TheVariants as sort
use Rattle.app_load.specs.Findings.{arm_body, clause_body, named, findings_in, arms_findings, cases_findings, clauses_findings, class_findings, members_findings}

-- what was added, and then more
pub adds_twice : {A : Type 0} (a b c x y : List A) → b ≡ a ++ x → c ≡ b ++ y → c ≡ a ++ (x ++ y)
adds_twice a b c x y e f = f ∙ ap (λ z. z ++ y) e ∙ append_assoc a x y

-- what was added in front of the rest
pub in_front : {A : Type 0} (a b x r : List A) → b ≡ a ++ x → b ++ r ≡ a ++ (x ++ r)
in_front a b x r e = ap (λ z. z ++ r) e ∙ append_assoc a x r

-- a step of a loop
pub goes_on : {A : Type 0} (a b x r w : List A) → b ≡ a ++ x → a ++ (x ++ r) ≡ w → b ++ r ≡ w
goes_on a b x r w e f = in_front a b x r e ∙ f

-- ---- an element of a list in front of the others

pub arm_in_front : (t : ℕ → List ℕ) (n : ℕ) (e : Expr) (ss : List Stmt) (rest : Arms ℕ) → arms_findings t n (arm_of (a.Arm e ss) rest) ≡ findings_in t n (statements_of ss) ++ arms_findings t n rest
arm_in_front t n e ss rest = ap (λ f. arms_findings t n (f rest)) (arm_of-Arm e ss)

pub case_in_front : (t : ℕ → List ℕ) (n : ℕ) (e : Expr) (ss : List Stmt) (rest : Cases ℕ) → cases_findings t n (case_of (w.Case e ss) rest) ≡ findings_in t n (statements_of ss) ++ cases_findings t n rest
case_in_front t n e ss rest = ap (λ f. cases_findings t n (f rest)) (case_of-Case e ss)

pub default_in_front : (t : ℕ → List ℕ) (n : ℕ) (ss : List Stmt) (rest : Cases ℕ) → cases_findings t n (case_of (w.Default ss) rest) ≡ findings_in t n (statements_of ss) ++ cases_findings t n rest
default_in_front t n ss rest = ap (λ f. cases_findings t n (f rest)) (case_of-Default ss)

pub clause_in_front : (t : ℕ → List ℕ) (n v : ℕ) (names : List ClassName) (ss : List Stmt) (rest : Clauses ℕ) → clauses_findings t n (catch_of (c.Clause names v ss) rest) ≡ findings_in t n (statements_of ss) ++ clauses_findings t n rest
clause_in_front t n v names ss rest = ap (λ f. clauses_findings t n (f rest)) (catch_of-Clause names v ss)

-- a class is its name and its members
pub class_opened : (t : ℕ → List ℕ) (d : ClassDecl) → class_findings t (class_of d) ≡ named sort.Class [] [] (out-ClassDecl d).name.text (out-ClassDecl d).name.line ∷ members_findings t (out-ClassDecl d).name.text (members_of (out-ClassDecl d).members)
class_opened t d = ap (class_findings t) (class_of-out d)

-- ---- an element of one form alone

arm_rolled : (t : ℕ → List ℕ) (n : ℕ) (y : IfArm-F Member Catch IfArm Stmt SwitchArm ClassDecl FunDecl) (rest : Arms ℕ) → arms_findings t n (arm_of (roll-IfArm y) rest) ≡ findings_in t n (statements_of (arm_body y)) ++ arms_findings t n rest
arm_rolled t n (IfArm-F.Arm e ss) rest = ap (λ z. arms_findings t n (arm_of z rest)) (a.rolls-Arm e ss) ∙ arm_in_front t n e ss rest

pub arm_opened : (t : ℕ → List ℕ) (n : ℕ) (x : IfArm) (rest : Arms ℕ) → arms_findings t n (arm_of x rest) ≡ findings_in t n (statements_of (arm_body (out-IfArm x))) ++ arms_findings t n rest
arm_opened t n x rest = ap (λ z. arms_findings t n (arm_of z rest)) (sym (roll-out-IfArm x)) ∙ arm_rolled t n (out-IfArm x) rest

clause_rolled : (t : ℕ → List ℕ) (n : ℕ) (y : Catch-F Member Catch IfArm Stmt SwitchArm ClassDecl FunDecl) (rest : Clauses ℕ) → clauses_findings t n (catch_of (roll-Catch y) rest) ≡ findings_in t n (statements_of (clause_body y)) ++ clauses_findings t n rest
clause_rolled t n (Catch-F.Clause names v ss) rest = ap (λ z. clauses_findings t n (catch_of z rest)) (c.rolls-Clause names v ss) ∙ clause_in_front t n v names ss rest

pub clause_opened : (t : ℕ → List ℕ) (n : ℕ) (x : Catch) (rest : Clauses ℕ) → clauses_findings t n (catch_of x rest) ≡ findings_in t n (statements_of (clause_body (out-Catch x))) ++ clauses_findings t n rest
clause_opened t n x rest = ap (λ z. clauses_findings t n (catch_of z rest)) (sym (roll-out-Catch x)) ∙ clause_rolled t n (out-Catch x) rest

-- ---- what an element of one form is

abbrev pub arm_test : IfArm-F Member Catch IfArm Stmt SwitchArm ClassDecl FunDecl → Expr
arm_test (IfArm-F.Arm e ss) = e

arm_rolls : (y : IfArm-F Member Catch IfArm Stmt SwitchArm ClassDecl FunDecl) → roll-IfArm y ≡ a.Arm (arm_test y) (arm_body y)
arm_rolls (IfArm-F.Arm e ss) = a.rolls-Arm e ss

pub arm_is : (x : IfArm) → x ≡ a.Arm (arm_test (out-IfArm x)) (arm_body (out-IfArm x))
arm_is x = sym (roll-out-IfArm x) ∙ arm_rolls (out-IfArm x)

abbrev pub clause_names : Catch-F Member Catch IfArm Stmt SwitchArm ClassDecl FunDecl → List ClassName
clause_names (Catch-F.Clause names v ss) = names

abbrev pub clause_var : Catch-F Member Catch IfArm Stmt SwitchArm ClassDecl FunDecl → ℕ
clause_var (Catch-F.Clause names v ss) = v

clause_rolls : (y : Catch-F Member Catch IfArm Stmt SwitchArm ClassDecl FunDecl) → roll-Catch y ≡ c.Clause (clause_names y) (clause_var y) (clause_body y)
clause_rolls (Catch-F.Clause names v ss) = c.rolls-Clause names v ss

pub clause_is : (x : Catch) → x ≡ c.Clause (clause_names (out-Catch x)) (clause_var (out-Catch x)) (clause_body (out-Catch x))
clause_is x = sym (roll-out-Catch x) ∙ clause_rolls (out-Catch x)
