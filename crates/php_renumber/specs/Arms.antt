-- What arms and clauses hold, which have one form alone.
use Rattle.std.specs.Prelude.{ℕ, List}
use Rattle.php_tree.specs.declared.name.ClassName.{ClassName}
use Rattle.php_tree.specs.declared.expr.Expr.{Expr}
use Rattle.php_tree.specs.declared.stmt.Stmt.{Stmt}
use Rattle.php_tree.specs.declared.stmt.IfArm.{IfArm}
use Rattle.php_tree.specs.declared.stmt.SwitchArm.{SwitchArm}
use Rattle.php_tree.specs.declared.stmt.Catch.{Catch}
use Rattle.php_tree.specs.declared.decl.Member.{Member}
use Rattle.php_tree.specs.declared.decl.FunDecl.{FunDecl}
use Rattle.php_tree.specs.declared.decl.ClassDecl.{ClassDecl}
use Rattle.php_tree.specs.declared.decl.Member.TheOpen.{IfArm-F, Catch-F}

abbrev pub arm_test : IfArm-F Member Catch IfArm Stmt SwitchArm ClassDecl FunDecl → Expr
arm_test (IfArm-F.Arm e ss) = e

abbrev pub arm_body : IfArm-F Member Catch IfArm Stmt SwitchArm ClassDecl FunDecl → List Stmt
arm_body (IfArm-F.Arm e ss) = ss

abbrev pub clause_names : Catch-F Member Catch IfArm Stmt SwitchArm ClassDecl FunDecl → List ClassName
clause_names (Catch-F.Clause names v ss) = names

abbrev pub clause_var : Catch-F Member Catch IfArm Stmt SwitchArm ClassDecl FunDecl → ℕ
clause_var (Catch-F.Clause names v ss) = v

abbrev pub clause_body : Catch-F Member Catch IfArm Stmt SwitchArm ClassDecl FunDecl → List Stmt
clause_body (Catch-F.Clause names v ss) = ss
