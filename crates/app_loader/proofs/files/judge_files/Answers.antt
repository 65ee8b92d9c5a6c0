use Rattle.std.proofs.Common.{map}
use Rattle.std.proofs.lemmas.Result.{err_from_is_err_and}
use Rattle.app_load.specs.Applications.{text_of}
use Rattle.app_loader.proofs.EachFile.{goes_on, stops}
use Rattle.app_loader.proofs.files.judge_files.Goals as goal

pub returns-in_err-file-clause-fault : goal.returns-in_err-file-clause-fault
returns-in_err-file-clause-fault g c =
    let p = err_from_is_err_and c.from_residual.result c.from_residual.ensures.1 in
    rw (p.1, p.2) (stops c.args.setting (map text_of c.args.files.items) c.pop.new.self.items c.loop-path.files.items (c.in-Some.path, c.in-Some.text) c.loop-path.judged.items c.in_err-file.field-0.0 c.in-Some.ensures.items c.loop-path.invariant c.in_err-file.ensures.bad)

pub loop-path-preserved : goal.loop-path-preserved
loop-path-preserved g c =
    goes_on c.args.setting (map text_of c.args.files.items) c.pop.new.self.items c.loop-path.files.items (c.in-Some.path, c.in-Some.text) c.loop-path.judged.items c.push.new.self.items c.in_ok-file.file
    c.in-Some.ensures.items c.loop-path.invariant c.in_ok-file.ensures.good c.in_ok-file.ensures.whole c.in_ok-push.ensures.items
