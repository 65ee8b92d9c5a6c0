use Rattle.std.proofs.Common.{ap, sym, ◌∙◌}
use Rattle.php_library.specs.Callees as library
use Rattle.php_callees.proofs.callee.library.Goals as goal

pub returns-in-System : goal.returns-in-System
returns-in-System c = λ t. c.system.ensures t ∙ ap library.callee_of (sym c.in-System.is)
