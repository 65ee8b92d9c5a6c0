use Rattle.std.proofs.Common.{◌∙◌, ap, not, nat_eq}
use Rattle.order_map.specs.Arrays.{pairs_of}
use Rattle.php_values.proofs.Datas.{has_pairs-length}
use Rattle.php_values.proofs.value.has_pairs.Goals as goal

pub returns : goal.returns
returns c = ap (λ n. not (nat_eq n 0)) c.len.ensures.count ∙ has_pairs-length (pairs_of c.args.map.now)
