use Rattle.php_values.proofs.Datas.{array_of-copy}
use Rattle.php_values.proofs.value.copied.Goals as goal

pub returns : goal.returns
returns c = array_of-copy _ _ c.in_ok-copy.ensures.cases
