-- What is left of an array that is taken apart.
use Rattle.std.specs.Prelude.{List, map}
use Rattle.order_map.specs.declared.key.Key.{Key}
use Rattle.order_map.specs.declared.values.Values.{Values}
use Rattle.order_map.specs.Arrays.{pairs_in}

-- the values of pairs in their order
abbrev pub values_of : {V : Type 0} → List (Key × V) → List V
values_of ps = map (λ p. p.1) ps

-- the values that are left, in the order of their keys
abbrev pub values_left : {V : Type 0} → Values V → List V
values_left v = values_of (pairs_in v.rest.items)
