use Rattle.std.proofs.Common.{◌≡◌, ◌-◌, ◌++◌, [], List, length, take, drop, map, reverse, pos, vec_len}
use Rattle.php_values.specs.Walks.{rest_of}
use Rattle.php_values.specs.Data.{array_of, data_of}
use Rattle.php_list_calls.specs.Items.{items, items_of, values_of, key_value, empty, with_items, with_values, renumbered}
use Rattle.php_list_calls.specs.Numbers.{summed}
use Rattle.php_list_calls.proofs.numbers.sum_of.Given as goal

abbrev pub invariant-loop-value : goal.invariant-loop-value
invariant-loop-value l = summed l.total (values_of (items_of (rest_of l.walk))) ≡ summed (pos 0) (values_of (items (array_of l.array)))

abbrev pub decreases-loop-value : goal.decreases-loop-value
decreases-loop-value l = length (rest_of l.walk)
