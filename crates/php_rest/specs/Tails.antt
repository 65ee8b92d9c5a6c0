-- What is left of a list.
use Rattle.std.specs.Prelude.{List, drop}
use Rattle.php_rest.specs.declared.tail.Tail.{Tail}

abbrev pub left_in : {T : Type 0} → Tail T → List T
left_in tail = drop tail.at tail.items.now
