-- What an arm guards, and what is done where a clause catches.
use Rattle.std.specs.Prelude.{List}
use Rattle.php_tree.specs.declared.stmt.Stmt.{Stmt}
use Rattle.php_tree.specs.declared.stmt.IfArm.{IfArm}
use Rattle.php_tree.specs.declared.stmt.SwitchArm.{SwitchArm}
use Rattle.php_tree.specs.declared.stmt.Catch.{Catch}
use Rattle.php_tree.specs.declared.decl.Member.{Member}
use Rattle.php_tree.specs.declared.decl.FunDecl.{FunDecl}
use Rattle.php_tree.specs.declared.decl.ClassDecl.{ClassDecl}
use Rattle.php_tree.specs.declared.decl.Member.TheOpen.{IfArm-F, Catch-F}

abbrev pub arm_body : IfArm-F Member Catch IfArm Stmt SwitchArm ClassDecl FunDecl → List Stmt
arm_body (IfArm-F.Arm e ss) = ss

abbrev pub clause_body : Catch-F Member Catch IfArm Stmt SwitchArm ClassDecl FunDecl → List Stmt
clause_body (Catch-F.Clause names v ss) = ss
