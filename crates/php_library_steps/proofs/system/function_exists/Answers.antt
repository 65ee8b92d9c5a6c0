use Rattle.std.proofs.Common.{ap, ◌∙◌}
use Rattle.std.specs.Option.{is_some}
use Rattle.std.specs.Str.{str_to_ascii_lowercase}
use Rattle.php_values.specs.Data.{data_of}
use Rattle.php_meaning.specs.Calls.{callee_of}
use Rattle.php_state.specs.Views.{world_of}
use Rattle.php_library_steps.proofs.Asked.{exists_text}
use Rattle.php_library_steps.proofs.system.function_exists.Goals as goal

pub returns-in-Ok : goal.returns-in-Ok
returns-in-Ok c = λ t k.
    ap (λ does. does (world_of t c.args.state.now) k) (c.give_truth.ensures t)
    ∙ exists_text t c.args.args.now c.index-args-0.result (data_of c.in_ok-name.name) c.in-Ok.text c.in_ok-exists-in-Ok.exists (world_of t c.args.state.now) k
    c.if-args-ne1.false c.index-args-0.is (c.in_ok-name.ensures t) c.in-Ok.ensures
    (c.in_ok-exists-in-Ok.ensures t ∙ ap (λ name. is_some (callee_of (str_to_ascii_lowercase name) (world_of t c.args.state.now))) c.as_slice.ensures)
