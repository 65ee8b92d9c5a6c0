use Rattle.std.proofs.Common.{◌∙◌, ap}
use Rattle.php_values.specs.Data.{data_of}
use Rattle.php_values.proofs.Datas.{data-List}
use Rattle.php_values.proofs.union.add.Goals as goal

pub add_to_array-requires : goal.add_to_array-requires
add_to_array-requires c = ap data_of c.in-List.is ∙ data-List c.in-List.x
