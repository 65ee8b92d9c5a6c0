use Rattle.std.proofs.Common.{◌≡◌, subst, IfSome}
use Rattle.std.specs.FinMap as fin
use Rattle.less_cmd.specs.Reply.{is_request}
use Rattle.less_cmd.proofs.Answers.{answered}
use Rattle.less_cmd.proofs.play.play.Goals as goal

pub returns-in-Ok-true-clause-end : goal.returns-in-Ok-true-clause-end
returns-in-Ok-true-clause-end g c =
    let is = subst (λ yes. IfSome (g.F.Folder.told c.args.folder.now) (λ files. is_request (fin.get files c.args.script.now) ≡ yes)) c.in-Ok-true.field-0-test c.in-Ok-true.ensures.value in
    answered (g.F.Folder.told c.args.folder.now) (g.F.Folder.told c.is_request.new.folder) c.args.script.now c.play_copy.result (g.O.Sink.told c.args.out.now) (g.O.Sink.told c.play_copy.new.out) c.is_request.ensures.kept (c.play_copy.ensures.end c.args.script.now) is
