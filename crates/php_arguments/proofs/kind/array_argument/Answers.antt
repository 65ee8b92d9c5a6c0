use Rattle.std.proofs.Common.{◌∙◌, ap, sym}
use Rattle.php_values.specs.Data.{data_of, array_of}
use Rattle.php_values.proofs.Datas.{data-List}
use Rattle.php_arguments.specs.Answers.{CallAnswer, Ok}
use Rattle.php_arguments.specs.Arguments.{array_argument}
use Rattle.php_arguments.proofs.kind.array_argument.Goals as goal

pub returns-in-List : goal.returns-in-List
returns-in-List c = ap array_argument (ap data_of c.in-List.is ∙ data-List c.in-List.array) ∙ ap (λ m. Ok (array_of m)) (sym c.as_ref.ensures)
