use Rattle.std.proofs.Common.{◌≡◌, ◌++◌, drop}
use Rattle.php_tree.specs.Parts.{bodies_in, arms_bodies, cases_bodies, clauses_bodies, members_bodies}
use Rattle.php_tree.specs.StatementOf.{arms_of, cases_of, clauses_of, members_of, statements_of}
use Rattle.php_bodies.specs.Collected.{bodies_of}
use Rattle.php_bodies.proofs.collect.+walk.Given as goal

abbrev pub invariant-collect_arms-loop-arm : goal.invariant-collect_arms-loop-arm
invariant-collect_arms-loop-arm l = bodies_of l.found.items ++ arms_bodies (arms_of (drop l.arm-index l.arms)) ≡ bodies_of l.initial.found.items ++ arms_bodies (arms_of l.arms)

abbrev pub invariant-collect_cases-loop-case : goal.invariant-collect_cases-loop-case
invariant-collect_cases-loop-case l = bodies_of l.found.items ++ cases_bodies (cases_of (drop l.case-index l.cases)) ≡ bodies_of l.initial.found.items ++ cases_bodies (cases_of l.cases)

abbrev pub invariant-collect_members-loop-member : goal.invariant-collect_members-loop-member
invariant-collect_members-loop-member l = bodies_of l.found.items ++ members_bodies l.before (members_of (drop l.member-index l.members)) ≡ bodies_of l.initial.found.items ++ members_bodies l.before (members_of l.members)

abbrev pub invariant-collect_clauses-loop-clause : goal.invariant-collect_clauses-loop-clause
invariant-collect_clauses-loop-clause l = bodies_of l.found.items ++ clauses_bodies (clauses_of (drop l.clause-index l.clauses)) ≡ bodies_of l.initial.found.items ++ clauses_bodies (clauses_of l.clauses)

abbrev pub invariant-collect_bodies-loop-statement : goal.invariant-collect_bodies-loop-statement
invariant-collect_bodies-loop-statement l = bodies_of l.found.items ++ bodies_in (statements_of (drop l.statement-index l.statements)) ≡ bodies_of l.initial.found.items ++ bodies_in (statements_of l.statements)
