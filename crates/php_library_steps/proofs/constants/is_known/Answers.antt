use Rattle.std.proofs.Common.{refl, sym, ◌∙◌}
use Rattle.php_state.specs.Views.{world_of}
use Rattle.php_library_steps.proofs.Defined.{known, unknown}
use Rattle.php_library_steps.proofs.constants.is_known.Goals as goal

pub returns-clause-known : goal.returns-clause-known
returns-clause-known c = λ t.
    c.is_some.ensures ∙ known c.args.name.now c.path_of-path.result.now 0 c.args.state.now.constants c.in_ok-value.value c.in_ok-value.ensures
    (world_of t c.args.state.now) (record { path_is = sym c.path_of-path.ensures; constants_are = refl })

pub returns-clause-free : goal.returns-clause-free
returns-clause-free c = λ e. unknown c.args.name.now c.path_of-path.result.now 0 c.args.state.now.constants c.in_ok-value.value c.in_ok-value.ensures (sym c.is_some.ensures ∙ e)
