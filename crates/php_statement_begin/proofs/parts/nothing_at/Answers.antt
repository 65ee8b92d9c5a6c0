use Rattle.php_rest.specs.declared.now.Ending.TheVariants as ending
use Rattle.php_rest.specs.declared.now.Now.TheVariants as now
use Rattle.php_statement_begin.proofs.Places.{next_at}
use Rattle.php_statement_begin.proofs.parts.nothing_at.Goals as goal

pub returns : goal.returns
returns c = next_at c.args.store.now c.args.scene.now c.stand_at.new.scene (now.End ending.Normal) c.args.line c.stand_at.ensures
