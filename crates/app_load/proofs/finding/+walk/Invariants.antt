use Rattle.std.proofs.Common.{◌≡◌, ◌++◌, drop}
use Rattle.php_tree.specs.Renamed.{name_at}
use Rattle.php_tree.specs.StatementOf.{arms_of, cases_of, clauses_of, members_of, statements_of}
use Rattle.app_load.specs.Findings.{findings_of, findings_in, arms_findings, cases_findings, clauses_findings, members_findings}
use Rattle.app_load.proofs.finding.+walk.Given as goal

abbrev pub invariant-find_arms-loop-arm : goal.invariant-find_arms-loop-arm
invariant-find_arms-loop-arm l = findings_of l.found.items ++ arms_findings (name_at l.variables) l.depth (arms_of (drop l.arm-index l.arms)) ≡ findings_of l.initial.found.items ++ arms_findings (name_at l.variables) l.depth (arms_of l.arms)

abbrev pub invariant-find_cases-loop-case : goal.invariant-find_cases-loop-case
invariant-find_cases-loop-case l = findings_of l.found.items ++ cases_findings (name_at l.variables) l.depth (cases_of (drop l.case-index l.cases)) ≡ findings_of l.initial.found.items ++ cases_findings (name_at l.variables) l.depth (cases_of l.cases)

abbrev pub invariant-find_members-loop-member : goal.invariant-find_members-loop-member
invariant-find_members-loop-member l = findings_of l.found.items ++ members_findings (name_at l.variables) l.class (members_of (drop l.member-index l.members)) ≡ findings_of l.initial.found.items ++ members_findings (name_at l.variables) l.class (members_of l.members)

abbrev pub invariant-find_clauses-loop-clause : goal.invariant-find_clauses-loop-clause
invariant-find_clauses-loop-clause l = findings_of l.found.items ++ clauses_findings (name_at l.variables) l.depth (clauses_of (drop l.clause-index l.clauses)) ≡ findings_of l.initial.found.items ++ clauses_findings (name_at l.variables) l.depth (clauses_of l.clauses)

abbrev pub invariant-find_statements-loop-statement : goal.invariant-find_statements-loop-statement
invariant-find_statements-loop-statement l = findings_of l.found.items ++ findings_in (name_at l.variables) l.depth (statements_of (drop l.statement-index l.statements)) ≡ findings_of l.initial.found.items ++ findings_in (name_at l.variables) l.depth (statements_of l.statements)
