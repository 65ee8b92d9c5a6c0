-- What a walk over an array has left.
use Rattle.std.specs.Prelude.{List, drop}
use Rattle.order_map.specs.declared.key.Key.{Key}
use Rattle.order_map.specs.Arrays.{pairs_of}
use Rattle.php_values.specs.declared.value.Value.{Value}
use Rattle.php_values.specs.declared.walk.Walk.{Walk}

-- the pairs that are left
abbrev pub rest_of : Walk → List (Key × Value)
rest_of w = drop w.number (pairs_of w.map.now)
