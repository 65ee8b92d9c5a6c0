use Rattle.std.proofs.Common.{ap, ◌∙◌}
use Rattle.std.specs.Option.{is_some}
use Rattle.php_values.specs.Data.{data_of}
use Rattle.php_meaning.specs.Constants.{constant_value}
use Rattle.php_state.specs.Views.{world_of}
use Rattle.php_library_steps.proofs.Asked.{defined_text}
use Rattle.php_library_steps.proofs.constants.defined.Goals as goal

pub returns-in-Ok : goal.returns-in-Ok
returns-in-Ok c = λ t k.
    ap (λ does. does (world_of t c.args.state.now) k) (c.give_truth.ensures t)
    ∙ defined_text t c.args.args.now c.index-args-0.result (data_of c.in_ok-name.name) c.in-Ok.text c.in_ok-known-in-Ok.known (world_of t c.args.state.now) k
    c.if-args-ne1.false c.index-args-0.is (c.in_ok-name.ensures t) c.in-Ok.ensures
    (c.in_ok-known-in-Ok.ensures.known t ∙ ap (λ name. is_some (constant_value name 0 (world_of t c.args.state.now))) c.as_slice.ensures)
