use Rattle.php_renumber.specs.Numbers.{number_in}
use Rattle.php_renumber.proofs.Each.{each_begins, each_goes_on, each_ends}
use Rattle.php_renumber.proofs.Arms.{arm_copied, case_copied, clause_copied}
use Rattle.php_renumber.proofs.Parts.{IsMember, IsArm, IsCase, IsClause, IsStmt, members_are, arms_are, cases_are, clauses_are, stmts_are}
use Rattle.php_renumber.proofs.statement.+statements.Goals as goal

pub members-loop-one-init : goal.members-loop-one-init
members-loop-one-init t c = each_begins (IsMember (number_in c.args.numbers.now)) c.args.all.now c.new-copies.result c.new-copies.ensures

pub members-loop-one-preserved : goal.members-loop-one-preserved
members-loop-one-preserved t c = each_goes_on (IsMember (number_in c.args.numbers.now)) c.args.all.now c.loop-one.one-index c.one-item.result c.loop-one.copies c.in_ok-copy.copy c.push.new.self c.loop-one-test.true c.one-item.is c.loop-one.invariant c.in_ok-copy.ensures c.in_ok-push.ensures.ok

pub members-returns : goal.members-returns
members-returns t c = members_are (number_in c.args.numbers.now) c.args.all.now c.loop-one.copies (each_ends (IsMember (number_in c.args.numbers.now)) c.args.all.now c.loop-one.one-index c.loop-one.copies c.loop-one-test.false c.loop-one.invariant)

pub arms-loop-one-init : goal.arms-loop-one-init
arms-loop-one-init t c = each_begins (IsArm (number_in c.args.numbers.now)) c.args.all.now c.new-copies.result c.new-copies.ensures

pub arms-loop-one-preserved : goal.arms-loop-one-preserved
arms-loop-one-preserved t c = each_goes_on (IsArm (number_in c.args.numbers.now)) c.args.all.now c.loop-one.one-index c.one-item.result c.loop-one.copies c.in_ok-copy.copy c.push.new.self c.loop-one-test.true c.one-item.is c.loop-one.invariant c.in_ok-copy.ensures c.in_ok-push.ensures.ok

pub arms-returns : goal.arms-returns
arms-returns t c = arms_are (number_in c.args.numbers.now) c.args.all.now c.loop-one.copies (each_ends (IsArm (number_in c.args.numbers.now)) c.args.all.now c.loop-one.one-index c.loop-one.copies c.loop-one-test.false c.loop-one.invariant)

pub cases-loop-one-init : goal.cases-loop-one-init
cases-loop-one-init t c = each_begins (IsCase (number_in c.args.numbers.now)) c.args.all.now c.new-copies.result c.new-copies.ensures

pub cases-loop-one-preserved : goal.cases-loop-one-preserved
cases-loop-one-preserved t c = each_goes_on (IsCase (number_in c.args.numbers.now)) c.args.all.now c.loop-one.one-index c.one-item.result c.loop-one.copies c.in_ok-copy.copy c.push.new.self c.loop-one-test.true c.one-item.is c.loop-one.invariant c.in_ok-copy.ensures c.in_ok-push.ensures.ok

pub cases-returns : goal.cases-returns
cases-returns t c = cases_are (number_in c.args.numbers.now) c.args.all.now c.loop-one.copies (each_ends (IsCase (number_in c.args.numbers.now)) c.args.all.now c.loop-one.one-index c.loop-one.copies c.loop-one-test.false c.loop-one.invariant)

pub clauses-loop-one-init : goal.clauses-loop-one-init
clauses-loop-one-init t c = each_begins (IsClause (number_in c.args.numbers.now)) c.args.all.now c.new-copies.result c.new-copies.ensures

pub clauses-loop-one-preserved : goal.clauses-loop-one-preserved
clauses-loop-one-preserved t c = each_goes_on (IsClause (number_in c.args.numbers.now)) c.args.all.now c.loop-one.one-index c.one-item.result c.loop-one.copies c.in_ok-copy.copy c.push.new.self c.loop-one-test.true c.one-item.is c.loop-one.invariant c.in_ok-copy.ensures c.in_ok-push.ensures.ok

pub clauses-returns : goal.clauses-returns
clauses-returns t c = clauses_are (number_in c.args.numbers.now) c.args.all.now c.loop-one.copies (each_ends (IsClause (number_in c.args.numbers.now)) c.args.all.now c.loop-one.one-index c.loop-one.copies c.loop-one-test.false c.loop-one.invariant)

pub stmts-loop-one-init : goal.stmts-loop-one-init
stmts-loop-one-init t c = each_begins (IsStmt (number_in c.args.numbers.now)) c.args.all.now c.new-copies.result c.new-copies.ensures

pub stmts-loop-one-preserved : goal.stmts-loop-one-preserved
stmts-loop-one-preserved t c = each_goes_on (IsStmt (number_in c.args.numbers.now)) c.args.all.now c.loop-one.one-index c.one-item.result c.loop-one.copies c.in_ok-copy.copy c.push.new.self c.loop-one-test.true c.one-item.is c.loop-one.invariant c.in_ok-copy.ensures c.in_ok-push.ensures.ok

pub stmts-returns : goal.stmts-returns
stmts-returns t c = stmts_are (number_in c.args.numbers.now) c.args.all.now c.loop-one.copies (each_ends (IsStmt (number_in c.args.numbers.now)) c.args.all.now c.loop-one.one-index c.loop-one.copies c.loop-one-test.false c.loop-one.invariant)

pub arm-returns : goal.arm-returns
arm-returns t c = arm_copied (number_in c.args.numbers.now) c.args.arm.now c.arm_test.result.now c.in_ok-test.test c.arm_body.result.now c.in_ok-body.body c.arm_test.ensures c.arm_body.ensures c.in_ok-test.ensures c.in_ok-body.ensures

pub case-returns-in_ok-body-in-Case : goal.case-returns-in_ok-body-in-Case
case-returns-in_ok-body-in-Case t c = case_copied (number_in c.args.numbers.now) c.args.case.now c.in-Case.test c.in_ok-test-in-Case.test c.in-Case.body c.as_slice.result.now c.in_ok-body-in-Case.body c.in-Case.is c.as_slice.ensures c.in_ok-test-in-Case.ensures c.in_ok-body-in-Case.ensures

pub clause-returns : goal.clause-returns
clause-returns t c = clause_copied (number_in c.args.numbers.now) c.args.clause.now c.clause_names.result.now c.in_ok-names.names c.clause_variable.result c.number-variable.result c.clause_body.result.now c.in_ok-body.body c.clause_names.ensures c.clause_variable.ensures c.clause_body.ensures c.in_ok-names.ensures c.number-variable.ensures c.in_ok-body.ensures
