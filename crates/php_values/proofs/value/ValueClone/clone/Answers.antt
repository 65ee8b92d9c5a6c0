use Rattle.std.proofs.Common.{◌∙◌, ap, sym}
use Rattle.php_values.specs.Data.{data_of, array}
use Rattle.php_values.proofs.Datas.{data-List}
use Rattle.php_values.proofs.value.ValueClone.clone.Goals as goal

pub returns-in_ok-share-in-List : goal.returns-in_ok-share-in-List
returns-in_ok-share-in-List c = record {
  cases = data-List c.in_ok-share-in-List.field-0 ∙ ap array c.in_ok-share-in-List.ensures ∙ sym (ap data_of c.in-List.is ∙ data-List c.in-List.array);
}
