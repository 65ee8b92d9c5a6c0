use Rattle.php_declarations.proofs.Places.{statics_placed}
use Rattle.php_declarations.proofs.declared.statics_at.Goals as goal

pub returns-clause-law : goal.returns-clause-law
returns-clause-law c =
    statics_placed c.args.state.now c.bind_statics.new.state c.stand_at.new.scene c.behind.result c.in_ok-end.end c.args.variables.now c.as_slice.result.now c.args.line c.as_slice.ensures c.stand_at.ensures c.behind.ensures c.in_ok-end.ensures.law
