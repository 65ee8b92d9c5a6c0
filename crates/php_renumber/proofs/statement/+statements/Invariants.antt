use Rattle.std.proofs.Common.{take}
use Rattle.php_renumber.specs.Numbers.{number_in}
use Rattle.php_renumber.proofs.Each.{Each}
use Rattle.php_renumber.proofs.Parts.{IsMember, IsArm, IsCase, IsClause, IsStmt}
use Rattle.php_renumber.proofs.statement.+statements.Given as goal

abbrev pub invariant-members-loop-one : goal.invariant-members-loop-one
invariant-members-loop-one l = Each (IsMember (number_in l.numbers)) (take l.one-index l.all) l.copies

abbrev pub invariant-arms-loop-one : goal.invariant-arms-loop-one
invariant-arms-loop-one l = Each (IsArm (number_in l.numbers)) (take l.one-index l.all) l.copies

abbrev pub invariant-cases-loop-one : goal.invariant-cases-loop-one
invariant-cases-loop-one l = Each (IsCase (number_in l.numbers)) (take l.one-index l.all) l.copies

abbrev pub invariant-clauses-loop-one : goal.invariant-clauses-loop-one
invariant-clauses-loop-one l = Each (IsClause (number_in l.numbers)) (take l.one-index l.all) l.copies

abbrev pub invariant-stmts-loop-one : goal.invariant-stmts-loop-one
invariant-stmts-loop-one l = Each (IsStmt (number_in l.numbers)) (take l.one-index l.all) l.copies
