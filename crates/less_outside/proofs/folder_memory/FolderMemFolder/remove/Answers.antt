use Rattle.std.proofs.Common.{sym, ap, ◌∙◌}
use Rattle.std.specs.FinMap as fin
use Rattle.less_outside.specs.FolderMem.{files_of}
use Rattle.less_outside.proofs.Calls.{done_write}
use Rattle.less_outside.proofs.FilesOf.{files_of-remove}
use Rattle.less_outside.proofs.folder_memory.FolderMemFolder.remove.Goals as goal

pub returns-clause-after : goal.returns-clause-after
returns-clause-after c =
    let counted = c.self.view_is ∙ c.begin.ensures.after in
    let removed = files_of-remove c.self.inside.files c.remove.new.self c.args.path.now c.remove.ensures.updates in
    done_write c.args.self.now _ _ (files_of c.remove.new.self.entries) counted (sym c.begin.ensures.fails ∙ c.if-begin.false) (removed ∙ ap (λ s. fin.remove s.files c.args.path.now) counted)
