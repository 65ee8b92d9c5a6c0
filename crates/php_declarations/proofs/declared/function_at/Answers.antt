use Rattle.php_rest.specs.Rest.{rest}
use Rattle.php_declarations.proofs.Places.{function_new, function_taken}
use Rattle.php_declarations.proofs.declared.function_at.Goals as goal

pub returns-then-branch-clause-law : goal.returns-then-branch-clause-law
returns-then-branch-clause-law c = λ t stack k fits.
    function_new c.args.state.now c.stand_at.new.scene c.declare.new.functions (record { path = c.file_of-path.result; declaration = c.args.declaration }) c.in_ok-declare.field-0 c.args.line c.stand_at.ensures c.file_of-path.ensures c.in_ok-declare.ensures c.if-branch.true t (rest t stack k)

pub returns-clause-law : goal.returns-clause-law
returns-clause-law c = λ t stack k fits.
    function_taken c.args.state.now c.stand_at.new.scene c.declare.new.functions (record { path = c.file_of-path.result; declaration = c.args.declaration }) c.in_ok-declare.field-0 c.args.line c.stand_at.ensures c.file_of-path.ensures c.in_ok-declare.ensures c.if-branch.false t (rest t stack k)
