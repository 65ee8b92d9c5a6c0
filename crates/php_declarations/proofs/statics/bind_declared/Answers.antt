use Rattle.std.proofs.Common.{◌∙◌, ap, sym}
use Rattle.php_tree.specs.ExpressionOf.{expression_or_none}
use Rattle.php_tree.specs.Renamed.{renamed_option}
use Rattle.php_world.specs.View.{vars_of}
use Rattle.php_meaning.specs.Statements.{static_made}
use Rattle.php_meaning.specs.World.{with_vars}
use Rattle.php_fixed.specs.Evaluated.{gone_on}
use Rattle.php_declarations.proofs.Fitting.{unused, made}
use Rattle.php_declarations.proofs.statics.bind_declared.Goals as goal

pub returns-in_ok-bind-in-Gives : goal.returns-in_ok-bind-in-Gives
returns-in_ok-bind-in-Gives c = λ t go w k knows.
    made (t.name c.args.variable.now.variable) (t.static c.args.declared) c.in-Gives.value c.in_ok-cell-in-Gives.cell (vars_of t c.args.store.now) (vars_of t c.new_static.new.self) (vars_of t c.bind-in-Gives.new.self) c.in_ok-value.field-0 c.in-Gives.is
    (c.in_ok-cell-in-Gives.ensures t) (c.in_ok-bind-in-Gives.ensures t) go w k
    ∙ unused t (t.name c.args.variable.now.variable) (t.static c.args.declared) (λ u. renamed_option u.name (expression_or_none c.args.variable.now.default)) c.args.path.now c.args.constants.now c.in_ok-value.field-0 c.static_cell.result (vars_of t c.args.store.now)
    (c.static_cell.ensures t) c.in_default.is c.in_ok-value.ensures go w k knows

pub returns-in-Fails : goal.returns-in-Fails
returns-in-Fails c = λ t go w k knows.
    ap (λ z. gone_on z (λ d u j. go (static_made (t.static c.args.declared) (t.name c.args.variable.now.variable) d u) j) (with_vars (vars_of t c.args.store.now) w) k) (sym c.in-Fails.is)
    ∙ unused t (t.name c.args.variable.now.variable) (t.static c.args.declared) (λ u. renamed_option u.name (expression_or_none c.args.variable.now.default)) c.args.path.now c.args.constants.now c.in_ok-value.field-0 c.static_cell.result (vars_of t c.args.store.now)
    (c.static_cell.ensures t) c.in_default.is c.in_ok-value.ensures go w k knows
