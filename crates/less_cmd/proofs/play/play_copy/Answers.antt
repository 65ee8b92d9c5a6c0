use Rattle.std.proofs.Common.{sym, subst, IfSome}
use Rattle.app_load.specs.Files.{files_of}
use Rattle.folder_loader.specs.Folders.{IsCopyRefusalIn}
use Rattle.less_cmd.specs.Answers.{copy_folder, IsPageReply, IsReplyOf}
use Rattle.less_cmd.proofs.Answers.{reply, other, copy_refused}
use Rattle.less_cmd.proofs.play.play_copy.Goals as goal

pub returns-in-Ok-Some-clause-end : goal.returns-in-Ok-Some-clause-end
returns-in-Ok-Some-clause-end g c =
    let fs = files_of c.in-Ok.program in
    let is = subst (IsReplyOf fs) c.in-Ok-Some.field-0-is c.in-Ok-Some.ensures in
    let is_text = subst (IsPageReply fs) (sym c.deref.ensures.value) is in
    λ script. reply _ script fs _ _ _ _ c.in-Ok.ensures.program is_text c.write_answer.ensures.ends c.write_answer.ensures.done c.write_answer.ensures.part

pub returns-in-Ok-None-clause-end : goal.returns-in-Ok-None-clause-end
returns-in-Ok-None-clause-end g c =
    let fs = files_of c.in-Ok.program in
    let none = subst (IsReplyOf fs) c.in-Ok-None.field-0-is c.in-Ok-None.ensures in
    λ script. other _ script fs (g.O.Sink.told c.args.out.now) (g.O.Sink.told c.args.out.now) c.in-Ok.ensures.program none

pub returns-in-Ok-copy_note-clause-end : goal.returns-in-Ok-copy_note-clause-end
returns-in-Ok-copy_note-clause-end g c =
    let refused = subst (λ refusal. IfSome (g.F.Folder.told c.args.folder.now) (λ files. IsCopyRefusalIn copy_folder files refusal)) c.in-Err-At.field-0-is c.in-Err-At.ensures.fault in
    λ script. copy_refused _ script c.in-Err-At.file c.in-Err-At.line c.in-Err-At.kind c.deref-in-Err-At.result.now c.in-Ok-copy_note.note (g.O.Sink.told c.args.out.now) (g.O.Sink.told c.args.out.now) refused c.deref-in-Err-At.ensures c.in-Ok-copy_note.ensures
