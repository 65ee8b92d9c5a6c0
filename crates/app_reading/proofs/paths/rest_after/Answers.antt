use Rattle.app_reading.proofs.Cut.{stripped}
use Rattle.app_reading.proofs.paths.rest_after.Goals as goal

pub returns : goal.returns
returns c = stripped c.args.front.now c.args.path.now _ c.strip_prefix.ensures.cases
