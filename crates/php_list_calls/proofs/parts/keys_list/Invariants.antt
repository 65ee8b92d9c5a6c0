use Rattle.std.proofs.Common.{◌≡◌, ◌-◌, ◌++◌, [], List, length, take, drop, map, reverse, pos, vec_len}
use Rattle.php_values.specs.Walks.{rest_of}
use Rattle.php_values.specs.Data.{array_of, data_of}
use Rattle.php_list_calls.specs.Items.{items, items_of, values_of, key_value, empty, with_items, with_values, renumbered}
use Rattle.php_arguments.specs.Results.{array_list}
use Rattle.php_list_calls.proofs.parts.keys_list.Given as goal

abbrev pub invariant-loop-key : goal.invariant-loop-key
invariant-loop-key l = with_values (array_of l.list) (map (λ e. key_value e.0) (items_of (rest_of l.walk))) ≡ array_list (map (λ e. key_value e.0) (items (array_of l.array)))

abbrev pub decreases-loop-key : goal.decreases-loop-key
decreases-loop-key l = length (rest_of l.walk)
