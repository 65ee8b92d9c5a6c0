use Rattle.std.proofs.Common.{◌≡◌, length}
use Rattle.php_tree.specs.Functions.{numbered}
use Rattle.php_functions.proofs.list.numbered.Given as goal

abbrev pub invariant-loop-name : goal.invariant-loop-name
invariant-loop-name l = (l.list ≡ numbered 1 l.yielded) × (l.count ≡ length l.yielded)
