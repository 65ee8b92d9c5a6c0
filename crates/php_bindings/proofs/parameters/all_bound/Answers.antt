use Rattle.php_rest.specs.Views.{function_named}
use Rattle.php_state.specs.Views.{world_of}
use Rattle.php_bindings.proofs.Taking.{next_bound, not_bound, all_there}
use Rattle.php_bindings.proofs.parameters.all_bound.Goals as goal

pub returns-in-Fails : goal.returns-in-Fails
returns-in-Fails c = λ t k.
    not_bound _ t (function_named t c.args.function) c.as_slice-params.result.now c.loop-param.param-index c.param-item.result c.loop-param.args.now c.loop-param.all.items _ c.in-Fails.why (world_of t c.args.state.now) k
    c.loop-param-test.true c.param-item.is c.in-Fails.is (c.in_ok-bound.ensures t) (c.loop-param.invariant t k)

pub loop-param-preserved : goal.loop-param-preserved
loop-param-preserved c = λ t k.
    next_bound _ t (function_named t c.args.function) c.as_slice-params.result.now c.loop-param.param-index c.param-item.result c.loop-param.args.now _ c.loop-param.all.items _ _ c.in-Bound.bound (world_of t c.args.state.now) k
    c.loop-param-test.true c.param-item.is c.in-Bound.is c.behind_first-args.ensures c.in_ok-push-in-Bound.ensures.items (c.in_ok-bound.ensures t) (c.loop-param.invariant t k)

pub returns : goal.returns
returns c = λ t k.
    all_there _ t (function_named t c.args.function) c.as_slice-params.result.now c.loop-param.param-index c.loop-param.args.now c.loop-param.all.items (world_of t c.args.state.now) k
    c.loop-param-test.false (c.loop-param.invariant t k)
