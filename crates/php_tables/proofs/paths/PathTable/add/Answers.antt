use Rattle.php_tables.proofs.Names.{inserted}
use Rattle.php_tables.proofs.paths.PathTable.add.Goals as goal

pub returns-clause-ok : goal.returns-clause-ok
returns-clause-ok c =
    inserted (λ k. k.items) c.self.inside.set.keys c.insert.new.self.keys c.in_ok-path.path c.args.path.now c.args.self.now c.in_ok-path.ensures.items c.self.view_is c.in_ok-_new.ensures.keys
    c.requires
