use Rattle.std.proofs.Common.{◌≡◌, ◌++◌, drop}
use Rattle.php_tree.specs.StatementOf.{arms_of, cases_of, clauses_of, members_of, statements_of}
use Rattle.php_tree.specs.Functions.{spans_in, arms_spans, cases_spans, clauses_spans, members_spans}
use Rattle.php_functions.proofs.walk.+walk.Given as goal

abbrev pub invariant-find_arms-loop-arm : goal.invariant-find_arms-loop-arm
invariant-find_arms-loop-arm l = l.found.items ++ arms_spans (arms_of (drop l.arm-index l.arms)) ≡ l.initial.found.items ++ arms_spans (arms_of l.arms)

abbrev pub invariant-find_cases-loop-case : goal.invariant-find_cases-loop-case
invariant-find_cases-loop-case l = l.found.items ++ cases_spans (cases_of (drop l.case-index l.cases)) ≡ l.initial.found.items ++ cases_spans (cases_of l.cases)

abbrev pub invariant-find_members-loop-member : goal.invariant-find_members-loop-member
invariant-find_members-loop-member l = l.found.items ++ members_spans l.before (members_of (drop l.member-index l.members)) ≡ l.initial.found.items ++ members_spans l.before (members_of l.members)

abbrev pub invariant-find_clauses-loop-clause : goal.invariant-find_clauses-loop-clause
invariant-find_clauses-loop-clause l = l.found.items ++ clauses_spans (clauses_of (drop l.clause-index l.clauses)) ≡ l.initial.found.items ++ clauses_spans (clauses_of l.clauses)

abbrev pub invariant-find_statements-loop-statement : goal.invariant-find_statements-loop-statement
invariant-find_statements-loop-statement l = l.found.items ++ spans_in (statements_of (drop l.statement-index l.statements)) ≡ l.initial.found.items ++ spans_in (statements_of l.statements)
