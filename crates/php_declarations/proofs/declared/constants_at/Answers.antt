use Rattle.php_declarations.proofs.Places.{constants_placed}
use Rattle.php_declarations.proofs.declared.constants_at.Goals as goal

pub returns-clause-law : goal.returns-clause-law
returns-clause-law c =
    constants_placed c.args.state.now c.stand_at.new.scene c.add_constants.new.constants c.behind.result c.in_ok-end.end c.args.declared.now c.as_slice.result.now c.as_slice-path.result.now c.file_of.result.now c.args.line c.as_slice.ensures c.stand_at.ensures c.as_slice-path.ensures c.file_of.ensures c.behind.ensures c.in_ok-end.ensures
