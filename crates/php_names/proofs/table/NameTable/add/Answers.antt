use Rattle.php_names.proofs.Tables.{added}
use Rattle.php_names.proofs.table.NameTable.add.Goals as goal

pub returns-clause-ok : goal.returns-clause-ok
returns-clause-ok g c =
    added (λ k. k.items) c.in_ok-name.name c.args.value c.self.inside.items.entries c.insert.new.self.entries c.args.name.now c.args.self.now c.in_ok-name.ensures.items
    c.self.view_is c.in_ok-insert.ensures.entries c.requires
