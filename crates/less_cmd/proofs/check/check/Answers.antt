use Rattle.std.proofs.Common.{◌∙◌, ap, subst, IfSome}
use Rattle.app_load.specs.Files.{files_of}
use Rattle.folder_loader.specs.Folders.{IsAppRefusalIn}
use Rattle.load_notes.specs.Notes.{accepted_text}
use Rattle.less_cmd.specs.Answers.{app_folder}
use Rattle.less_cmd.proofs.Answers.{summary, app_refused}
use Rattle.less_cmd.proofs.check.check.Goals as goal

pub returns-in-Ok-accepted_text-clause-end : goal.returns-in-Ok-accepted_text-clause-end
returns-in-Ok-accepted_text-clause-end g c =
    let says = c.in-Ok-accepted_text.ensures ∙ ap (λ fs. accepted_text (files_of fs)) c.files.ensures.files in
    summary _ (files_of c.in-Ok.app) _ _ _ _ c.in-Ok.ensures.app (c.deref.ensures.value ∙ says) c.write_answer.ensures.ends c.write_answer.ensures.done c.write_answer.ensures.part

pub returns-in-Ok-app_note-clause-end : goal.returns-in-Ok-app_note-clause-end
returns-in-Ok-app_note-clause-end g c =
    let refused = subst (λ refusal. IfSome (g.F.Folder.told c.args.folder.now) (λ files. IsAppRefusalIn app_folder files refusal)) c.in-Err-At.field-0-is c.in-Err-At.ensures.fault in
    app_refused _ c.in-Err-At.file c.in-Err-At.line c.in-Err-At.kind c.deref-in-Err-At.result.now c.in-Ok-app_note.note (g.O.Sink.told c.args.out.now) (g.O.Sink.told c.args.out.now) refused c.deref-in-Err-At.ensures c.in-Ok-app_note.ensures
