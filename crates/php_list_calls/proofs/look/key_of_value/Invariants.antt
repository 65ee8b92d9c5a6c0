use Rattle.std.proofs.Common.{◌≡◌, ◌-◌, ◌++◌, [], List, length, take, drop, map, reverse, pos, vec_len}
use Rattle.php_values.specs.Walks.{rest_of}
use Rattle.php_values.specs.Data.{array_of, data_of}
use Rattle.php_list_calls.specs.Items.{items, items_of, values_of, key_value, empty, with_items, with_values, renumbered}
use Rattle.php_list_calls.specs.Looking.{alike, key_where}
use Rattle.php_list_calls.proofs.look.key_of_value.Given as goal

abbrev pub invariant-loop-key : goal.invariant-loop-key
invariant-loop-key l = key_where (alike l.strict (data_of l.value)) (items_of (rest_of l.walk)) ≡ key_where (alike l.strict (data_of l.value)) (items (array_of l.array))

abbrev pub decreases-loop-key : goal.decreases-loop-key
decreases-loop-key l = length (rest_of l.walk)
