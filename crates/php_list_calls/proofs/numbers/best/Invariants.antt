use Rattle.std.proofs.Common.{◌≡◌, ◌-◌, ◌++◌, [], List, length, take, drop, map, reverse, pos, vec_len}
use Rattle.php_values.specs.Walks.{rest_of}
use Rattle.php_values.specs.Data.{array_of, data_of}
use Rattle.php_list_calls.specs.Items.{items, items_of, values_of, key_value, empty, with_items, with_values, renumbered}
use Rattle.php_list_calls.specs.Numbers.{best}
use Rattle.php_list_calls.proofs.numbers.best.Given as goal

abbrev pub invariant-loop-value : goal.invariant-loop-value
invariant-loop-value l = best l.way l.found (values_of (items_of (rest_of l.walk))) ≡ best l.way l.first (values_of (items_of (rest_of l.initial.walk)))

abbrev pub decreases-loop-value : goal.decreases-loop-value
decreases-loop-value l = length (rest_of l.walk)
