-- What a table keeps.
use Rattle.std.specs.Prelude.{◌≡◌, ◌<◌, ◌^◌, true, List, length}
use Rattle.php_classes.specs.declared.class.ClassEntry.{ClassEntry}
use Rattle.php_classes.specs.declared.class.Lineage.{Lineage}
use Rattle.php_classes.specs.Ancestors.{lineages_of}
use Rattle.php_classes.specs.Declaring.{names_earlier}

-- the lineages of its classes, which are fewer than 2^32, and each names only classes before it
pub record IsKept (classes : List ClassEntry) (lineages : List Lineage) : Type 0 where
  pub lineages_are : lineages ≡ lineages_of classes
  pub few : length classes < 2 ^ 32
  pub earlier : names_earlier 0 classes ≡ true
