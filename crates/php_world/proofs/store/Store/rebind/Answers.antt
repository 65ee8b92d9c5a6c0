use Rattle.std.proofs.Common.{map}
use Rattle.php_values.specs.Data.{data_of}
use Rattle.php_world.specs.View.{scope_at}
use Rattle.php_world.proofs.Stores.{rebound_top, rebound_call, when_done}
use Rattle.php_world.proofs.store.Store.rebind.Goals as goal

pub returns-then-is_top : goal.returns-then-is_top
returns-then-is_top c =
    when_done c.bind.result (λ h t. rebound_top t.name c.args.self.now.globals c.bind.new.self c.args.self.now.calls (map data_of c.args.self.now.lasting.items) (map data_of c.args.self.now.locals.items)
    (scope_at t.static c.args.self.now.statics) c.args.name c.args.held c.if-is_top.ensures h) c.bind.ensures

pub returns-else-is_top : goal.returns-else-is_top
returns-else-is_top c =
    when_done c.bind-else-is_top.result (λ h t. rebound_call t.name (scope_at t.name c.args.self.now.globals) c.args.self.now.calls c.bind-else-is_top.new.self (map data_of c.args.self.now.lasting.items)
    (map data_of c.args.self.now.locals.items) (scope_at t.static c.args.self.now.statics) c.args.name c.args.held c.if-is_top.ensures h) c.bind-else-is_top.ensures
