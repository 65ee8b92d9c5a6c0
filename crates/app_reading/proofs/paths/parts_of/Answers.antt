use Rattle.app_reading.specs.Parts.{part_of}
use Rattle.app_reading.proofs.Lists.{kept_next}
use Rattle.app_reading.proofs.paths.parts_of.Goals as goal

pub loop-path-preserved : goal.loop-path-preserved
loop-path-preserved c =
    kept_next (part_of c.args.front.now) c.args.listed.now c.loop-path.path-index c.path-item.result c.deref.result.now _ _ c.loop-path.invariant c.loop-path-test.true c.path-item.is c.deref.ensures c.in_ok-push_part.ensures
