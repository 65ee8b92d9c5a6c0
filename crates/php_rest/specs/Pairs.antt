-- What a walk over an array that it holds has left.
use Rattle.std.specs.Prelude.{List, drop}
use Rattle.order_map.specs.declared.key.Key.{Key}
use Rattle.order_map.specs.Arrays.{pairs_of}
use Rattle.php_values.specs.declared.value.Value.{Value}
use Rattle.php_rest.specs.declared.turns.Turns.{Turns}

-- the pairs that are left
abbrev pub pairs_left : Turns → List (Key × Value)
pairs_left w = drop w.number (pairs_of w.array.map.value)
