use Rattle.std.proofs.Common.{[], ◌∷◌, ◌++◌, ap, ◌∙◌}
use Rattle.app_loader.proofs.OneFile.{one_file}
use Rattle.app_loader.proofs.tests.one_file.Goals as goal

pub returns : goal.returns
returns c =
    one_file c.push.new.self.items (c.in_ok-path.path, c.in_ok-text.text)
    (c.in_ok-push.ensures.items ∙ ap (λ xs. xs ++ (c.in_ok-path.path, c.in_ok-text.text) ∷ []) c.new-files.ensures.items)
