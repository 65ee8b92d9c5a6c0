use Rattle.std.proofs.Common.{rules, ◌≡◌, ◌∙◌, Err, arith}
use Rattle.app_reading.proofs.Told.{stays_on, seen_before, told_both}
use Rattle.app_reading.proofs.Steps.{passes_at, read_next, sorted_next}
use Rattle.app_reading.proofs.texts.read_parts.Goals as goal

pub returns-in_err-read_part-clause-limit : goal.returns-in_err-read_part-clause-limit
returns-in_err-read_part-clause-limit g c =
    let e : c.from_residual.result ≡ Err c.in_err-read_part.field-0.0 = search rules in
    rw e (told_both (g.F.Folder.told c.args.folder.now) _ _ _
    (passes_at c.args.below.now c.as_str.result.now c.args.paths.now c.loop-path.path-index c.path-item.result c.loop-path.reading c.in_err-read_part.field-0.0 c.loop-path-test.true c.path-item.is c.as_str.ensures.value)
    c.loop-path.invariant.read
    (seen_before (g.F.Folder.told c.args.folder.now) (g.F.Folder.told c.loop-path.folder) _ c.loop-path.invariant.kept c.in_err-read_part.ensures.limit))

pub loop-path-preserved : goal.loop-path-preserved
loop-path-preserved g c =
    let before = c.loop-path.invariant.reads in
    let later = c.in_ok-read_part.ensures.cause.later in
    record {
      kept = stays_on _ _ _ c.loop-path.invariant.kept c.in_ok-read_part.ensures.kept;
      reads = omega arith;
      writes = c.in_ok-read_part.ensures.writes ∙ c.loop-path.invariant.writes;
      read = told_both (g.F.Folder.told c.args.folder.now) _ _ _
          (read_next c.args.below.now c.as_str.result.now c.args.paths.now c.loop-path.path-index c.path-item.result c.loop-path.reading c.read_part.new.reading c.loop-path-test.true c.path-item.is c.as_str.ensures.value)
          c.loop-path.invariant.read
          (seen_before (g.F.Folder.told c.args.folder.now) (g.F.Folder.told c.loop-path.folder) _ c.loop-path.invariant.kept c.in_ok-read_part.ensures.read);
      ascending = sorted_next c.as_str.result.now c.args.paths.now c.loop-path.path-index c.path-item.result _ _ c.loop-path-test.true c.path-item.is c.as_str.ensures.value c.in_ok-read_part.ensures.paths c.loop-path.invariant.ascending;
    }
