use Rattle.php_world.specs.View.{vars_of}
use Rattle.php_library_steps.proofs.Worth.{one_more, all_taken}
use Rattle.php_library_steps.proofs.values.values_of.Goals as goal

pub each-preserved : goal.each-preserved
each-preserved c = λ t.
    one_more t (vars_of t c.args.store.now) c.args.args.now c.each.argument-index c.argument-item.result c.each.values.items c.push.new.self.items c.in_ok-value.value
    c.each-test.true c.argument-item.is (c.each.invariant t) c.in_ok-push.ensures.items (c.in_ok-value.ensures t)

pub returns : goal.returns
returns c = λ t. all_taken t (vars_of t c.args.store.now) c.args.args.now c.each.argument-index c.each.values.items c.each-test.false (c.each.invariant t)
