use Rattle.std.proofs.Common.{◌≡◌, ◌-◌, ◌++◌, [], List, length, take, drop, map, reverse, pos, vec_len}
use Rattle.php_values.specs.Walks.{rest_of}
use Rattle.php_values.specs.Data.{array_of, data_of}
use Rattle.php_list_calls.specs.Items.{items, items_of, values_of, key_value, empty, with_items, with_values, renumbered}
use Rattle.php_list_calls.specs.Pairs.{lent_items}
use Rattle.php_list_calls.proofs.pairs.pairs_in.Given as goal

abbrev pub invariant-loop-key : goal.invariant-loop-key
invariant-loop-key l = lent_items l.pairs.items ++ items_of (rest_of l.walk) ≡ items (array_of l.array)

abbrev pub decreases-loop-key : goal.decreases-loop-key
decreases-loop-key l = length (rest_of l.walk)
