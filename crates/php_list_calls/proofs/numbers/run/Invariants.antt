use Rattle.std.proofs.Common.{◌≡◌, ◌-◌, ◌++◌, [], List, length, take, drop, map, reverse, pos, vec_len}
use Rattle.php_values.specs.Walks.{rest_of}
use Rattle.php_values.specs.Data.{array_of, data_of}
use Rattle.php_list_calls.specs.Items.{items, items_of, values_of, key_value, empty, with_items, with_values, renumbered}
use Rattle.php_arguments.specs.Results.{array_list}
use Rattle.php_list_calls.specs.Numbers.{run}
use Rattle.php_list_calls.proofs.numbers.run.Given as goal

abbrev pub invariant-loop-far : goal.invariant-loop-far
invariant-loop-far l = with_values (array_of l.list) (run l.direction l.from l.far (l.count - l.far)) ≡ array_list (run l.direction l.from 0 l.count)
