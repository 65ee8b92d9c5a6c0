use Rattle.php_declarations.proofs.Hoists.{hoist_new, hoist_taken}
use Rattle.php_declarations.proofs.file.hoist_next.Goals as goal

pub returns-then-branch : goal.returns-then-branch
returns-then-branch c = hoist_new c.args.x.now (record { path = c.args.path; declaration = c.in-Some.declaration }) c.in-Some.line c.args.functions.now c.declare.new.functions c.in_ok-declare.field-0 c.in-Some.ensures c.in_ok-declare.ensures c.if-branch.true

pub returns : goal.returns
returns c = hoist_taken c.args.x.now (record { path = c.args.path; declaration = c.in-Some.declaration }) c.in-Some.line c.args.functions.now c.declare.new.functions c.in_ok-declare.field-0 c.in-Some.ensures c.in_ok-declare.ensures c.if-branch.false
