use Rattle.std.proofs.Common.{ap, sym, ◌∙◌}
use Rattle.php_world.proofs.Items.{data-Null}
use Rattle.php_world.specs.View.{vars_of}
use Rattle.php_meaning.specs.Calls.{assigned}
use Rattle.php_library_steps.proofs.Taken.{taken}
use Rattle.php_library_steps.proofs.taking.take_array.Goals as goal

pub returns : goal.returns
returns c = λ t.
    taken (t.name c.args.number) (vars_of t c.args.store.now) (vars_of t c.assign.new.store) (sym (c.holds_array.ensures t) ∙ c.if-not-holds_array.false)
    (c.in_ok-assign.ensures t ∙ ap (λ d. assigned (t.name c.args.number) d (vars_of t c.args.store.now)) data-Null)
