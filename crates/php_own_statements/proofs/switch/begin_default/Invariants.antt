use Rattle.std.proofs.Common.{◌≡◌, length}
use Rattle.php_world.specs.Naming.{Naming}
use Rattle.php_meaning.specs.World.{World}
use Rattle.php_meaning.specs.Course.{Then}
use Rattle.php_meaning.specs.Statements.{default_of}
use Rattle.php_rest.specs.Named.{cases_named}
use Rattle.php_rest.specs.Rest.{rest}
use Rattle.php_rest.specs.Tails.{left_in}
use Rattle.php_own_statements.proofs.switch.begin_default.Given as goal

abbrev pub invariant-arms : goal.invariant-arms
invariant-arms l = (t : Naming) (w : World) (k : Then) → default_of (cases_named t (left_in l.arms)) w (rest t l.stack k) ≡ default_of (cases_named t (left_in l.fn.arms)) w (rest t l.fn.stack k)

abbrev pub decreases-arms : goal.decreases-arms
decreases-arms l = length (left_in l.arms)
