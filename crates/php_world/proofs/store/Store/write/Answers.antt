use Rattle.php_world.specs.Variables.{write_place}
use Rattle.php_world.specs.View.{held_of, path_of, change_of, vars_of}
use Rattle.php_world.proofs.Writes.{makes_of}
use Rattle.php_world.proofs.Stores.{place_found, place_new}
use Rattle.php_world.proofs.store.Store.write.Goals as goal

pub returns-in-Some : goal.returns-in-Some
returns-in-Some c t =
    makes_of c.write_cell.result _ (write_place (t.name c.args.name) (path_of c.args.path.now) (change_of c.args.change) (vars_of t c.args.self.now)) (vars_of t c.args.self.now) (vars_of t c.write_cell.new.self)
    (place_found (t.name c.args.name) (path_of c.args.path.now) (change_of c.args.change) (vars_of t c.args.self.now) (held_of c.held.result) c.in-Some.cell (c.held.ensures t) c.in-Some.ensures) (c.write_cell.ensures t)

pub returns-in-None : goal.returns-in-None
returns-in-None c t =
    makes_of c.write_new.result _ (write_place (t.name c.args.name) (path_of c.args.path.now) (change_of c.args.change) (vars_of t c.args.self.now)) (vars_of t c.args.self.now) (vars_of t c.write_new.new.self)
    (place_new (t.name c.args.name) (path_of c.args.path.now) (change_of c.args.change) (vars_of t c.args.self.now) (held_of c.held.result) (c.held.ensures t) c.in-None.ensures) (c.write_new.ensures t)
