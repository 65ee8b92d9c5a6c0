use Rattle.php_bodies.specs.Collected.{bodies_of}
use Rattle.php_bodies.proofs.Walks.{function_collected}
use Rattle.php_bodies.proofs.collect.+walk.Goals as goal

pub collect_function-returns : goal.collect_function-returns
collect_function-returns t c = function_collected (bodies_of c.args.found.now.items) (bodies_of c.note_body.new.found.items) (bodies_of c.collect_bodies.new.found.items) c.args.before.now c.as_slice-name.result.now c.as_slice.result.now c.args.function.now c.as_slice-name.ensures c.as_slice.ensures c.in_ok-note_body.ensures c.in_ok-collect_bodies.ensures
