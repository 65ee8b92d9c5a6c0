use Rattle.std.proofs.Common.{◌∙◌, ap, rules}
use Rattle.php_values.specs.Data.{data_of}
use Rattle.php_values.specs.Convert.{int_of, zero_or_one}
use Rattle.php_values.proofs.Datas.{data-List}
use Rattle.php_values.proofs.convert.to_int.Goals as goal

pub returns-in-List : goal.returns-in-List
returns-in-List c =
    let e = c.zero_or_one-in-List.ensures ∙ ap zero_or_one c.has_pairs.ensures in
    let f = ap int_of (ap data_of c.in-List.is ∙ data-List c.in-List.array) in
    search (rules, e, f)
