use Rattle.std.proofs.Common.{sym, ap, ◌∙◌}
use Rattle.std.specs.Option.{option_copied}
use Rattle.less_outside.proofs.FilesOf.{found_in}
use Rattle.less_outside.proofs.folder_memory.FolderMem.file.Goals as goal

pub returns-in-Some : goal.returns-in-Some
returns-in-Some c =
    let found = found_in c.self.inside.files c.args.self.now.files c.args.path.now _ (ap (λ s. s.files) c.self.view_is) (ap option_copied (sym c.in-Some.is) ∙ c.get.ensures.value) in
    rw c.as_slice.ensures.value found

pub returns-in-None : goal.returns-in-None
returns-in-None c = found_in c.self.inside.files c.args.self.now.files c.args.path.now _ (ap (λ s. s.files) c.self.view_is) (ap option_copied (sym c.in-None.is) ∙ c.get.ensures.value)
