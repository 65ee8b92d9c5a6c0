use Rattle.std.proofs.Common.{ap, sym, ◌∙◌}
use Rattle.php_meaning.specs.Calls as calls
use Rattle.php_world.specs.View.{vars_of}
use Rattle.php_bindings.specs.Bounds.{bound_named}
use Rattle.php_bindings.proofs.Binding.{bind_more}
use Rattle.php_bindings.proofs.bound.bind_all.Goals as goal

pub loop-bound-preserved : goal.loop-bound-preserved
loop-bound-preserved c = λ t.
    c.in_ok-bind_one.ensures t ∙ ap (λ vs. calls.bind_one vs (bound_named t c.in-Some.bound)) (c.loop-bound.invariant t)
    ∙ sym (bind_more t (vars_of t c.args.store.now) c.loop-bound.yielded c.in-Some.bound)
