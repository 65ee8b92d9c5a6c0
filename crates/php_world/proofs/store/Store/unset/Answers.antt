use Rattle.php_world.specs.Variables.{unset_place}
use Rattle.php_world.specs.View.{held_of, path_of, vars_of}
use Rattle.php_world.proofs.Writes.{makes_of}
use Rattle.php_world.proofs.Stores.{unset_found}
use Rattle.php_world.proofs.store.Store.unset.Goals as goal

pub returns-in-Some : goal.returns-in-Some
returns-in-Some c t =
    makes_of c.unset_cell.result _ (unset_place (t.name c.args.name) (path_of c.args.path.now) (vars_of t c.args.self.now)) (vars_of t c.args.self.now) (vars_of t c.unset_cell.new.self)
    (unset_found (t.name c.args.name) (path_of c.args.path.now) (vars_of t c.args.self.now) (held_of c.held.result) c.in-Some.cell (c.held.ensures t) c.in-Some.ensures) (c.unset_cell.ensures t)
