use Rattle.std.proofs.Common.{◌∙◌, ap}
use Rattle.php_names.specs.Tables.{found}
use Rattle.php_names.proofs.Tables.{lookup-found}
use Rattle.php_names.proofs.table.NameTable.get.Goals as goal

pub returns : goal.returns
returns g c =
    c.get.ensures.value
    ∙ (lookup-found (λ k. k.items) c.args.name.now c.self.inside.items.entries ∙ ap (found c.args.name.now) c.self.view_is)
