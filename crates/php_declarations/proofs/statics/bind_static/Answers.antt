use Rattle.std.proofs.Common.{◌∙◌, ap, sym}
use Rattle.php_tree.specs.ExpressionOf.{expression_or_none}
use Rattle.php_tree.specs.Renamed.{renamed_option}
use Rattle.php_world.specs.Variables.{static_cell}
use Rattle.php_world.specs.View.{vars_of}
use Rattle.php_meaning.specs.Statements.{static_or, statics_named}
use Rattle.php_state.specs.Views.{world_of}
use Rattle.php_declarations.proofs.Fitting.{key_is, knows}
use Rattle.php_declarations.proofs.statics.bind_static.Goals as goal

pub returns-clause-law : goal.returns-clause-law
returns-clause-law c = λ t more k fits.
    c.in_ok-end.ensures t (statics_named more) (world_of t c.args.state.now) k (knows t c.args.state.now c.as_slice-path.result.now c.file_of.result.now c.as_slice-path.ensures c.file_of.ensures)
    ∙ ap (λ key. static_or key (t.name c.args.variable.now.variable) (renamed_option t.name (expression_or_none c.args.variable.now.default)) (static_cell key (vars_of t c.args.state.now.store)) (statics_named more) (world_of t c.args.state.now) k)
    (key_is t c.args.state.now c.args.variable.now.variable c.in_ok-declared.declared c.in-Some.name.now c.declaration.new.statics c.as_slice.result.now c.in_ok-key.key.items c.as_slice-2.result.now fits.names_are fits.statics_are (sym c.in-Some.ensures.value) c.as_slice.ensures c.in_ok-key.ensures c.as_slice-2.ensures.value c.in_ok-declared.ensures.number)
