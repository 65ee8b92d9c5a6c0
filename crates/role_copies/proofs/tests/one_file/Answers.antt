use Rattle.std.proofs.Common.{◌∙◌, ◌++◌, ◌∷◌, [], ap, sym}
use Rattle.app_load.specs.declared.app.AppFile.{AppFile}
use Rattle.app_load.specs.Files.{is_php}
use Rattle.role_copies.proofs.Tested.{one_whole}
use Rattle.role_copies.proofs.tests.one_file.Goals as goal

pub new-requires : goal.new-requires
new-requires c =
    let file : AppFile = record { path = c.in_ok-from_str.field-0; text = c.in_ok-from_slice.field-0; tree = c.tree_of.result } in
    one_whole c.push.new.self.items file (c.in_ok-push.ensures.items ∙ ap (λ files. files ++ file ∷ []) c.new-files.ensures.items)
    (c.tree_of.ensures.tree ∙ ap is_php (sym c.in_ok-from_str.ensures.ok)) c.tree_of.ensures.functions
