-- The parts of an arm of `if`.
use Rattle.php_tree.specs.declared.decl.ClassDecl.{ClassDecl}
use Rattle.php_tree.specs.declared.decl.FunDecl.{FunDecl}
use Rattle.php_tree.specs.declared.decl.Member.{Member}
use Rattle.php_tree.specs.declared.decl.Member.TheOpen.{IfArm-F}
use Rattle.php_tree.specs.declared.expr.Expr.{Expr}
use Rattle.php_tree.specs.declared.stmt.Catch.{Catch}
use Rattle.php_tree.specs.declared.stmt.IfArm.{IfArm}
use Rattle.php_tree.specs.declared.stmt.Stmt.{Stmt}
use Rattle.php_tree.specs.declared.stmt.SwitchArm.{SwitchArm}

-- what an arm tests
abbrev pub arm_test : IfArm-F Member Catch IfArm Stmt SwitchArm ClassDecl FunDecl → Expr
arm_test (IfArm-F.Arm e ss) = e
