use Rattle.std.proofs.Common.{◌∙◌}
use Rattle.php_world.specs.View.{scope_at}
use Rattle.php_world.proofs.Stores.{scope_top, scope_call}
use Rattle.php_world.proofs.store.Store.scope_held.Goals as goal

pub returns-then-is_top : goal.returns-then-is_top
returns-then-is_top c t =
    c.get.ensures t.name t.names_differ ∙ scope_top t.name c.args.self.now.calls (scope_at t.name c.args.self.now.globals) (t.name c.args.name) c.if-is_top.ensures

pub returns-else-is_top : goal.returns-else-is_top
returns-else-is_top c t =
    c.get-else-is_top.ensures t.name t.names_differ ∙ scope_call t.name c.args.self.now.calls (scope_at t.name c.args.self.now.globals) (t.name c.args.name) c.if-is_top.ensures
