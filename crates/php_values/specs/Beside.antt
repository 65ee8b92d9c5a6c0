-- Two arrays beside each other: what the left one has left, and where its keys are sought.
use Rattle.order_map.specs.Arrays.{pairs_of}
use Rattle.php_values.specs.Data.{Pairs, data_pairs}
use Rattle.php_values.specs.Walks.{rest_of}
use Rattle.php_values.specs.declared.beside.Beside.{Beside}

abbrev pub left_of : Beside → Pairs
left_of b = data_pairs (rest_of b.left)

abbrev pub right_of : Beside → Pairs
right_of b = data_pairs (pairs_of b.right.now)
