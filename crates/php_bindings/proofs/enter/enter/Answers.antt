use Rattle.std.proofs.lemmas.Bool.{lt-ltb}
use Rattle.php_bindings.proofs.Binding.{entering}
use Rattle.php_bindings.proofs.enter.enter.Goals as goal

pub returns-clause-law : goal.returns-clause-law
returns-clause-law c = λ t k.
    entering t c.args.state.now c.args.function c.args.bounds.items c.enter.new.self c.bind_all.new.store c.args.stack.now c.push.new.self k
    (lt-ltb _ _ c.if-caller-ge-MAX_DEPTH.false) (c.in_ok-enter.ensures t) (c.in_ok-bind_all.ensures t) c.in_ok-push.ensures.ok
