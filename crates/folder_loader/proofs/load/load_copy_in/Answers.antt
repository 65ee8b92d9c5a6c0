use Rattle.app_load.specs.declared.judge.Setting.TheVariants.{Copy}
use Rattle.folder_loader.proofs.Outcomes.{told_in, copy_limit, copy_told}
use Rattle.folder_loader.proofs.load.load_copy_in.Goals as goal

pub returns-in-Err-Limit-clause-fault : goal.returns-in-Err-Limit-clause-fault
returns-in-Err-Limit-clause-fault g c =
    copy_limit (g.F.Folder.told c.args.folder.now) c.args.below.now c.in-Err-Limit.field-0-0 c.new.result c.new.ensures.bytes (rw c.in-Err-Limit.field-0-is at c.in-Err-Limit.ensures.limit)

pub returns-in-Ok-load_copy-clause-program : goal.returns-in-Ok-load_copy-clause-program
returns-in-Ok-load_copy-clause-program g c = told_in Copy (g.F.Folder.told c.args.folder.now) c.args.below.now c.in-Ok.texts.items _ c.in-Ok-load_copy.ensures.program c.in-Ok.ensures.texts

pub returns-in-Err-At-clause-fault : goal.returns-in-Err-At-clause-fault
returns-in-Err-At-clause-fault g c =
    copy_told (g.F.Folder.told c.args.folder.now) c.args.below.now c.in-Ok.texts.items c.in-Err-At.file c.in-Err-At.line c.in-Err-At.kind (rw c.in-Err-At.field-0-is at c.in-Err-At.ensures.fault) c.in-Ok.ensures.texts

pub returns-in-Ok-load_copy-clause-accepted : goal.returns-in-Ok-load_copy-clause-accepted
returns-in-Ok-load_copy-clause-accepted g c = (c.in-Ok.texts.items, c.in-Ok-load_copy.ensures.program)
