use Rattle.std.proofs.Common.{◌∙◌, ap, sym}
use Rattle.php_values.specs.Data.{data_of, array, array_of}
use Rattle.php_values.proofs.Datas.{data-List}
use Rattle.php_values.proofs.seen.look_at.Goals as goal

pub returns-in-List : goal.returns-in-List
returns-in-List c = ap (λ m. array (array_of m)) c.as_ref.ensures ∙ sym (ap data_of c.in-List.is ∙ data-List c.in-List.array)
