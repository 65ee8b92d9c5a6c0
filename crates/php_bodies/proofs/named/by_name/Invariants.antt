use Rattle.std.proofs.Common.{drop}
use Rattle.php_bodies.specs.Collected.{bodies_of}
use Rattle.php_bodies.specs.Tables.{FindsOr}
use Rattle.php_bodies.proofs.named.by_name.Given as goal

abbrev pub invariant-loop-body : goal.invariant-loop-body
invariant-loop-body l = FindsOr l.table (bodies_of (drop l.body-index l.bodies)) (bodies_of l.bodies)
