use Rattle.std.proofs.Common.{rules, ◌≡◌, Err}
use Rattle.app_reading.proofs.Told.{told_so}
use Rattle.app_reading.proofs.Steps.{part_passes}
use Rattle.app_reading.proofs.texts.read_part.Goals as goal

pub returns-in_err-note-clause-limit : goal.returns-in_err-note-clause-limit
returns-in_err-note-clause-limit g c =
    let e : c.from_residual-in_err-note.result ≡ Err c.in_err-note.field-0.0 = search rules in
    rw e (told_so (g.F.Folder.told c.args.folder.now) _ _
    (part_passes c.args.below.now c.args.path.now c.bytes_left-max.result c.in_ok-found.found c.args.reading.now c.in_err-note.field-0.0 c.bytes_left-max.ensures c.in_err-note.ensures.limit)
    c.in_ok-found.ensures.found)
