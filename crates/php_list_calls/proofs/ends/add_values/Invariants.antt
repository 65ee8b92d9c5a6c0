use Rattle.std.proofs.Common.{◌≡◌, ◌-◌, ◌++◌, [], List, length, take, drop, map, reverse, pos, vec_len}
use Rattle.php_values.specs.Walks.{rest_of}
use Rattle.php_values.specs.Data.{array_of, data_of}
use Rattle.php_list_calls.specs.Items.{items, items_of, values_of, key_value, empty, with_items, with_values, renumbered}
use Rattle.php_arguments.specs.Answers.{datas}
use Rattle.php_list_calls.proofs.ends.add_values.Given as goal

abbrev pub invariant-loop-value : goal.invariant-loop-value
invariant-loop-value l = with_values (array_of l.map) (datas (drop l.value-index l.values)) ≡ with_values (array_of l.initial.map) (datas l.values)
