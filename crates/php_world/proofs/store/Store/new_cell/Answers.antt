use Rattle.std.proofs.Common.{◌∙◌}
use Rattle.php_values.specs.Data.{data_of}
use Rattle.php_world.specs.Slots.{count_calls}
use Rattle.php_world.specs.View.{vars_of}
use Rattle.php_world.proofs.Stores.{when_given, new_top, new_other, top_calls, calls_is, is_zero, not_zero, is_other}
use Rattle.php_world.proofs.store.Store.new_cell.Goals as goal

pub returns-then-is_top : goal.returns-then-is_top
returns-then-is_top c =
    when_given c.new_global.result (λ cell h t. h t ∙ new_top (t.name c.args.name) (data_of c.args.value) (vars_of t c.args.self.now)
    (top_calls t.name c.args.self.now.calls (is_zero (count_calls c.args.self.now.calls) c.if-is_top.ensures))) c.new_global.ensures

pub returns : goal.returns
returns c =
    when_given c.new_local.result (λ cell h t. h t ∙ new_other (t.name c.args.name) (data_of c.args.value) (vars_of t c.args.self.now) _ _
    (calls_is t.name c.args.self.now.calls (not_zero (count_calls c.args.self.now.calls) c.if-is_top.ensures)) (is_other t c.args.name c.if-name-lt-SUPERGLOBALS.false)) c.new_local.ensures
