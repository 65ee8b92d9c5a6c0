use Rattle.std.proofs.Common.{sym, ap, ◌∙◌}
use Rattle.std.specs.FinMap as fin
use Rattle.less_outside.proofs.FilesOf.{len-files_of}
use Rattle.less_outside.proofs.folder_memory.FolderMem.len.Goals as goal

pub returns : goal.returns
returns c = c.len.ensures.len ∙ sym (len-files_of c.self.inside.files.entries c.len.ensures.ordered) ∙ ap (λ s. fin.len s.files) c.self.view_is
