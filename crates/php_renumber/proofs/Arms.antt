-- Copies of arms and clauses, in front of the others.
use Rattle.std.proofs.Common.{◌≡◌, ℕ, List, sym, ap, ◌∙◌}
use Rattle.php_tree.specs.declared.name.ClassName.{ClassName}
use Rattle.php_tree.specs.declared.expr.Expr.{Expr}
use Rattle.php_tree.specs.declared.stmt.Stmt.{Stmt}
use Rattle.php_tree.specs.declared.stmt.IfArm.{IfArm, out-IfArm, roll-IfArm, roll-out-IfArm}
use Rattle.php_tree.specs.declared.stmt.SwitchArm.{SwitchArm}
use Rattle.php_tree.specs.declared.stmt.Catch.{Catch, out-Catch, roll-Catch, roll-out-Catch}
use Rattle.php_tree.specs.declared.decl.Member.{Member}
use Rattle.php_tree.specs.declared.decl.FunDecl.{FunDecl}
use Rattle.php_tree.specs.declared.decl.ClassDecl.{ClassDecl}
use Rattle.php_tree.specs.declared.decl.Member.TheOpen.{IfArm-F, Catch-F}
use Rattle.php_tree.specs.declared.stmt.IfArm.TheVariants as a
use Rattle.php_tree.specs.declared.stmt.SwitchArm.TheVariants as w
use Rattle.php_tree.specs.declared.stmt.Catch.TheVariants as c
use Rattle.php_tree.specs.Statements.{Arms, arm, Cases, case, Clauses, clause}
use Rattle.php_tree.specs.ExpressionOf.{expression_of}
use Rattle.php_tree.specs.StatementOf.{arm_of, case_of, catch_of, statements_of}
use Rattle.php_tree.specs.Renamed.{renamed, renamed_arms, renamed_cases, renamed_clauses, renamed_statements}
use Rattle.php_renumber.specs.Arms.{arm_test, arm_body, clause_names, clause_var, clause_body}
use Rattle.php_tree.proofs.Statements.{arm_of-Arm, case_of-Case, catch_of-Clause}

arm_same : (f : ℕ → ℕ) (e d : Expr) (ss rs : List Stmt) → expression_of d ≡ renamed f (expression_of e) → statements_of rs ≡ renamed_statements f (statements_of ss)
    → (rest : Arms ℕ) → arm_of (a.Arm d rs) (renamed_arms f rest) ≡ renamed_arms f (arm_of (a.Arm e ss) rest)
arm_same f e d ss rs p q rest =
    ap (λ g. g (renamed_arms f rest)) (arm_of-Arm d rs) ∙ ap (λ h. arm h (statements_of rs) (renamed_arms f rest)) p
    ∙ ap (λ h. arm (renamed f (expression_of e)) h (renamed_arms f rest)) q ∙ sym (ap (λ g. renamed_arms f (g rest)) (arm_of-Arm e ss))

case_same : (f : ℕ → ℕ) (e d : Expr) (ss rs : List Stmt) → expression_of d ≡ renamed f (expression_of e) → statements_of rs ≡ renamed_statements f (statements_of ss)
    → (rest : Cases ℕ) → case_of (w.Case d rs) (renamed_cases f rest) ≡ renamed_cases f (case_of (w.Case e ss) rest)
case_same f e d ss rs p q rest =
    ap (λ g. g (renamed_cases f rest)) (case_of-Case d rs) ∙ ap (λ h. case h (statements_of rs) (renamed_cases f rest)) p
    ∙ ap (λ h. case (renamed f (expression_of e)) h (renamed_cases f rest)) q ∙ sym (ap (λ g. renamed_cases f (g rest)) (case_of-Case e ss))

pub case_copied : (f : ℕ → ℕ) (x : SwitchArm) (e d : Expr) (ss seen rs : List Stmt) → x ≡ w.Case e ss → seen ≡ ss
    → expression_of d ≡ renamed f (expression_of e) → statements_of rs ≡ renamed_statements f (statements_of seen)
    → (rest : Cases ℕ) → case_of (w.Case d rs) (renamed_cases f rest) ≡ renamed_cases f (case_of x rest)
case_copied f x e d ss seen rs is same p q rest =
    case_same f e d ss rs p (q ∙ ap (λ z. renamed_statements f (statements_of z)) same) rest ∙ sym (ap (λ z. renamed_cases f (case_of z rest)) is)

-- ---- an element of one form alone

arm_rolls : (y : IfArm-F Member Catch IfArm Stmt SwitchArm ClassDecl FunDecl) → roll-IfArm y ≡ a.Arm (arm_test y) (arm_body y)
arm_rolls (IfArm-F.Arm e ss) = a.rolls-Arm e ss

arm_is : (x : IfArm) → x ≡ a.Arm (arm_test (out-IfArm x)) (arm_body (out-IfArm x))
arm_is x = sym (roll-out-IfArm x) ∙ arm_rolls (out-IfArm x)

pub arm_copied : (f : ℕ → ℕ) (x : IfArm) (test d : Expr) (seen rs : List Stmt) → test ≡ arm_test (out-IfArm x) → seen ≡ arm_body (out-IfArm x)
    → expression_of d ≡ renamed f (expression_of test) → statements_of rs ≡ renamed_statements f (statements_of seen)
    → (rest : Arms ℕ) → arm_of (a.Arm d rs) (renamed_arms f rest) ≡ renamed_arms f (arm_of x rest)
arm_copied f x test d seen rs first same p q rest =
    arm_same f (arm_test (out-IfArm x)) d (arm_body (out-IfArm x)) rs (p ∙ ap (λ z. renamed f (expression_of z)) first) (q ∙ ap (λ z. renamed_statements f (statements_of z)) same) rest
    ∙ sym (ap (λ z. renamed_arms f (arm_of z rest)) (arm_is x))

clause_rolls : (y : Catch-F Member Catch IfArm Stmt SwitchArm ClassDecl FunDecl) → roll-Catch y ≡ c.Clause (clause_names y) (clause_var y) (clause_body y)
clause_rolls (Catch-F.Clause names v ss) = c.rolls-Clause names v ss

clause_is : (x : Catch) → x ≡ c.Clause (clause_names (out-Catch x)) (clause_var (out-Catch x)) (clause_body (out-Catch x))
clause_is x = sym (roll-out-Catch x) ∙ clause_rolls (out-Catch x)

clause_same : (f : ℕ → ℕ) (names ns : List ClassName) (v u : ℕ) (ss rs : List Stmt) → ns ≡ names → u ≡ f v → statements_of rs ≡ renamed_statements f (statements_of ss)
    → (rest : Clauses ℕ) → catch_of (c.Clause ns u rs) (renamed_clauses f rest) ≡ renamed_clauses f (catch_of (c.Clause names v ss) rest)
clause_same f names ns v u ss rs n p q rest =
    ap (λ g. g (renamed_clauses f rest)) (catch_of-Clause ns u rs) ∙ ap (λ h. clause h u (statements_of rs) (renamed_clauses f rest)) n
    ∙ ap (λ h. clause names h (statements_of rs) (renamed_clauses f rest)) p
    ∙ ap (λ h. clause names (f v) h (renamed_clauses f rest)) q ∙ sym (ap (λ g. renamed_clauses f (g rest)) (catch_of-Clause names v ss))

pub clause_copied : (f : ℕ → ℕ) (x : Catch) (seen_names ns : List ClassName) (v u : ℕ) (seen rs : List Stmt) → seen_names ≡ clause_names (out-Catch x) → v ≡ clause_var (out-Catch x) → seen ≡ clause_body (out-Catch x)
    → ns ≡ seen_names → u ≡ f v → statements_of rs ≡ renamed_statements f (statements_of seen)
    → (rest : Clauses ℕ) → catch_of (c.Clause ns u rs) (renamed_clauses f rest) ≡ renamed_clauses f (catch_of x rest)
clause_copied f x seen_names ns v u seen rs first var same n p q rest =
    clause_same f (clause_names (out-Catch x)) ns (clause_var (out-Catch x)) u (clause_body (out-Catch x)) rs (n ∙ first) (p ∙ ap f var) (q ∙ ap (λ z. renamed_statements f (statements_of z)) same) rest
    ∙ sym (ap (λ z. renamed_clauses f (catch_of z rest)) (clause_is x))
