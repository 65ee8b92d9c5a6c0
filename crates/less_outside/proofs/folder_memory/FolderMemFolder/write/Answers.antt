use Rattle.std.proofs.Common.{sym, ap, ◌∙◌, string_bytes}
use Rattle.std.specs.FinMap as fin
use Rattle.less_outside.specs.FolderMem.{files_of}
use Rattle.less_outside.proofs.Calls.{done_write}
use Rattle.less_outside.proofs.FilesOf.{files_of-insert}
use Rattle.less_outside.proofs.folder_memory.FolderMemFolder.write.Goals as goal

pub returns-clause-after : goal.returns-clause-after
returns-clause-after c =
    let counted = c.self.view_is ∙ c.begin.ensures.after in
    let set = files_of-insert c.self.inside.files c.insert.new.self (string_bytes c.in_ok-path.path) c.in_ok-bytes.bytes c.in_ok-insert.ensures.updates in
    let same = ap (λ path. fin.insert (files_of c.self.inside.files.entries) path c.in_ok-bytes.bytes.items) c.in_ok-path.ensures.ok
    ∙ ap (λ bytes. fin.insert (files_of c.self.inside.files.entries) c.args.path.now bytes) c.in_ok-bytes.ensures.items in
    done_write c.args.self.now _ _ (files_of c.insert.new.self.entries) counted (sym c.begin.ensures.fails ∙ c.if-begin.false)
    (set ∙ same ∙ ap (λ s. fin.insert s.files c.args.path.now c.args.bytes.now) counted)
