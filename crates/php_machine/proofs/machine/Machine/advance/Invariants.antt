use Rattle.php_state.specs.Fits.{Keeps}
use Rattle.php_machine.specs.Whole.{ComesAlike}
use Rattle.php_machine.proofs.machine.Machine.advance.Given as goal

abbrev pub invariant-steps : goal.invariant-steps
invariant-steps g l = ComesAlike l.fn.bodies l.fn.self l.self l.fn.now l.next × Keeps l.fn.self.state l.self.state
