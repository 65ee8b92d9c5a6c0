use Rattle.std.proofs.Common.{◌∙◌, ap, sym}
use Rattle.php_values.specs.Data.{data_of}
use Rattle.php_values.specs.Convert.{truth_of}
use Rattle.php_values.proofs.Datas.{data-List}
use Rattle.php_values.proofs.convert.truth.Goals as goal

pub returns-in-List : goal.returns-in-List
returns-in-List c = c.has_pairs.ensures ∙ sym (ap truth_of (ap data_of c.in-List.is ∙ data-List c.in-List.array))
