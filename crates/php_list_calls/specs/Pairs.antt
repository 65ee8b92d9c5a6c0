-- Pairs that are lent.
use Rattle.std.specs.Prelude.{List, map}
use Rattle.php_values.specs.Data.{data_of}
use Rattle.php_list_calls.specs.declared.pairs.Pair.{Pair}
use Rattle.php_list_calls.specs.Items.{Item}

abbrev pub lent_item : Pair → Item
lent_item p = (p.key.now, data_of p.value.now)

abbrev pub lent_items : List Pair → List Item
lent_items ps = map lent_item ps
