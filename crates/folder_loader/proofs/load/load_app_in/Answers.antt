use Rattle.app_load.specs.declared.judge.Setting.TheVariants.{Application}
use Rattle.folder_loader.proofs.Outcomes.{told_in, app_limit}
use Rattle.folder_loader.proofs.load.load_app_in.Goals as goal

pub returns-in-Err-Limit-clause-fault : goal.returns-in-Err-Limit-clause-fault
returns-in-Err-Limit-clause-fault g c =
    app_limit (g.F.Folder.told c.args.folder.now) c.args.below.now c.in-Err-Limit.limit c.new.result c.new.ensures.bytes (rw c.in-Err-Limit.field-0-is at c.in-Err-Limit.ensures.limit)

pub returns-in-Ok-load_app-clause-app : goal.returns-in-Ok-load_app-clause-app
returns-in-Ok-load_app-clause-app g c = told_in Application (g.F.Folder.told c.args.folder.now) c.args.below.now c.in-Ok.texts.items _ c.in-Ok-load_app.ensures.app c.in-Ok.ensures.texts

pub returns-in-Err-At-clause-fault : goal.returns-in-Err-At-clause-fault
returns-in-Err-At-clause-fault g c =
    told_in Application (g.F.Folder.told c.args.folder.now) c.args.below.now c.in-Ok.texts.items _ (rw c.in-Err-At.field-0-is at c.in-Err-At.ensures.fault) c.in-Ok.ensures.texts

pub returns-in-Ok-load_app-clause-accepted : goal.returns-in-Ok-load_app-clause-accepted
returns-in-Ok-load_app-clause-accepted g c = (c.in-Ok.texts.items, c.in-Ok-load_app.ensures.app)
