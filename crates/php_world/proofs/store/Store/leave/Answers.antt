use Rattle.std.proofs.Common.{map}
use Rattle.php_values.specs.Data.{data_of}
use Rattle.php_world.specs.View.{scope_at}
use Rattle.php_world.proofs.Stores.{left_call, left_top}
use Rattle.php_world.proofs.store.Store.leave.Goals as goal

pub returns-in-Some : goal.returns-in-Some
returns-in-Some c t =
    left_call t.name c.args.self.now.calls c.leave.new.self (map data_of c.args.self.now.lasting.items) c.args.self.now.locals.items c.truncate.new.self.items (scope_at t.name c.args.self.now.globals)
    (scope_at t.static c.args.self.now.statics) c.in-Some.base c.in-Some.ensures.base c.in-Some.ensures.after c.truncate.ensures.items

pub returns-in_default : goal.returns-in_default
returns-in_default c t =
    left_top t.name c.args.self.now.calls c.leave.new.self (map data_of c.args.self.now.lasting.items) (map data_of c.args.self.now.locals.items) (scope_at t.name c.args.self.now.globals)
    (scope_at t.static c.args.self.now.statics) c.in_default.ensures.base c.in_default.ensures.after
